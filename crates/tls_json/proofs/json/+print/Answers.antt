use Rattle.std.proofs.Common.{◌≡◌, [], length, drop, Some, sym, ◌∙◌, subst, arith, rules}
use Rattle.std.proofs.lemmas.List.{drop_all}
use Rattle.std.proofs.lemmas.Result.{on_ok_weaker}
use Rattle.serde.specs.Event.{Logs, seq_begins, map_begins}
use Rattle.serde_json.specs.Events.{SendsItems, SendsMembers}
use Rattle.tls_json.specs.Views.{items_view, members_view}
use Rattle.tls_json.proofs.Views.{items_len-items_view, members_len-members_view}
use Rattle.tls_json.proofs.json.+print.Goals as goal

pub print_items-returns : goal.print_items-returns
print_items-returns g t c =
    let xs = c.deref-item-items.result.now in
    let first = g.S.Serializer.written c.begin_seq.new.self in
    let end = g.S.Serializer.written c.end_seq.new.self in
    let len : c.len.result ≡ length c.args.items.now.items = search rules in
    let begun = subst
    (λ n. Logs (g.S.Serializer.written c.args.out.now) first (seq_begins (Some n)))
    (len ∙ sym (items_len-items_view c.args.items.now.items)) c.in_ok-begin_seq.ensures in
    let none : drop c.loop-item.item-index xs ≡ [] =
    drop_all c.loop-item.item-index xs (omega arith) in
    on_ok_weaker c.end_seq.result (λ e. (
      first,
      begun,
      subst (λ ys. SendsItems (items_view ys) first end) c.deref-item-items.ensures.value
          (c.loop-item.invariant end
          (subst (λ ys. SendsItems (items_view ys) (g.S.Serializer.written c.loop-item.out) end)
          (sym none) e)),
    )) c.end_seq.ensures

pub print_fields-returns : goal.print_fields-returns
print_fields-returns g t c =
    let xs = c.deref-name-items.result.now in
    let first = g.S.Serializer.written c.begin_map.new.self in
    let end = g.S.Serializer.written c.end_map.new.self in
    let len : c.len.result ≡ length c.args.fields.now.items = search rules in
    let begun = subst
    (λ n. Logs (g.S.Serializer.written c.args.out.now) first (map_begins (Some n)))
    (len ∙ sym (members_len-members_view c.args.fields.now.items)) c.in_ok-begin_map.ensures in
    let none : drop c.loop-name.name-index xs ≡ [] =
    drop_all c.loop-name.name-index xs (omega arith) in
    on_ok_weaker c.end_map.result (λ e. (
      first,
      begun,
      subst (λ ys. SendsMembers (members_view ys) first end) c.deref-name-items.ensures.value
          (c.loop-name.invariant end
          (subst (λ ys. SendsMembers (members_view ys) (g.S.Serializer.written c.loop-name.out)
          end) (sym none) e)),
    )) c.end_map.ensures
