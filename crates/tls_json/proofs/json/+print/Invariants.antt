use Rattle.std.proofs.Common.{drop}
use Rattle.serde.specs.Event.{Log}
use Rattle.serde_json.specs.Events.{SendsItems, SendsMembers}
use Rattle.tls_json.specs.Views.{items_view, members_view}
use Rattle.tls_json.proofs.json.+print.Given as goal

-- whatever ends it well from here ends it well from the start
abbrev pub invariant-print_items-loop-item : goal.invariant-print_items-loop-item
invariant-print_items-loop-item g l =
    (end : Log) → SendsItems (items_view (drop l.item-index l.item-items))
    (g.S.Serializer.written l.out) end
    → SendsItems (items_view l.item-items) (g.S.Serializer.written l.initial.out) end

abbrev pub invariant-print_fields-loop-name : goal.invariant-print_fields-loop-name
invariant-print_fields-loop-name g l =
    (end : Log) → SendsMembers (members_view (drop l.name-index l.name-items))
    (g.S.Serializer.written l.out) end
    → SendsMembers (members_view l.name-items) (g.S.Serializer.written l.initial.out) end
