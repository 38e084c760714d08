use Rattle.std.proofs.Common.{
  ◌≡◌,
  ◌≤◌,
  ◌<◌,
  ◌+◌,
  ◌^◌,
  ◌++◌,
  ◌∙◌,
  ℕ,
  List,
  [],
  length,
  map,
  take,
  get_or,
  ap,
  sym,
  arith,
  append_assoc,
}
use Rattle.std.specs.List.{flat_map}
use Rattle.std.specs.Borrow.{Bor}
use Rattle.tls_base.specs.declared.sni_type.SNIType.{SNIType}
use Rattle.layouts.specs.Bytes.{Bytes, bytes_of}
use Rattle.layouts.proofs.TextLemmas.{all_behind}
use Rattle.tls_ext.specs.Extension.{view_server_name}
use Rattle.tls_ext.specs.ExtensionText.{server_name_text}
use Rattle.layouts.proofs.WriterLemmas.{texts_more, texts_at, room_at}
use Rattle.tls_ext.proofs.ExtensionTextLemmas.{length-name}
use Rattle.tls_ext.proofs.writer.builder.append_names.Goals as goal

abbrev nameless : SNIType × Bor (List ℕ)
nameless = (record { 0 = 0 }, record { ref_ptr = (0, 0); now = [] })

-- the vector has room for one more name
room : (names : List (SNIType × Bor (List ℕ))) (i : ℕ) → i < length names
    → length (flat_map server_name_text (map view_server_name (take i names))) + (3 + length
    (get_or names i nameless).1.now) ≤ length (flat_map server_name_text
    (map view_server_name names))
room names i h = omega (
  arith,
  room_at server_name_text view_server_name names i nameless h,
  length-name (view_server_name (get_or names i nameless)),
)

pub append1-requires : goal.append1-requires
append1-requires c =
    omega (arith, room c.args.names.now c.loop-name_type.name_type-index c.loop-name_type-test.true)

pub overflow_cast-name : goal.overflow_cast-name
overflow_cast-name c =
    omega (arith, room c.args.names.now c.loop-name_type.name_type-index c.loop-name_type-test.true)

pub append2-requires : goal.append2-requires
append2-requires c =
    omega (arith, room c.args.names.now c.loop-name_type.name_type-index c.loop-name_type-test.true)

pub append_bytes-requires : goal.append_bytes-requires
append_bytes-requires c =
    omega (arith, room c.args.names.now c.loop-name_type.name_type-index c.loop-name_type-test.true)

-- a name, field by field, after others
joined : (a b c d e t u n : Bytes) → b ≡ a ++ t → c ≡ b ++ u → d ≡ c ++ n
    → e ≡ a ++ (t ++ (u ++ n)) → d ≡ e
joined a b c d e t u n p q r s = let all : d ≡ a ++ t ++ u ++ n =
    cc in let same : a ++ t ++ u ++ n ≡ a ++ (t ++ (u ++ n)) = simp append_assoc in
    all ∙ same ∙ sym s

pub loop-name_type-preserved : goal.loop-name_type-preserved
loop-name_type-preserved c =
    let names = c.args.names.now in
    let i = c.loop-name_type.name_type-index in
    let h = c.loop-name_type-test.true in
    let name = get_or names i nameless in
    let more = texts_more server_name_text view_server_name names i nameless h in
    record {
      items = joined c.loop-name_type.out.items c.append1.new.out.items c.append2.new.out.items
          c.append_bytes.new.out.items _
          (bytes_of 1 name.0.0) (bytes_of 2 (length name.1.now)) name.1.now
          c.append1.ensures.items c.append2.ensures.items c.append_bytes.ensures.items
          (ap (λ t. c.args.out.now.items ++ t) more ∙ sym (append_assoc c.args.out.now.items _ _)
          ∙ ap (λ t. t ++ server_name_text (view_server_name name))
          (sym c.loop-name_type.invariant.items));
      range = all_behind (λ n. n.name_type < 256 ^ 1) view_server_name names i nameless h
          c.loop-name_type.invariant.range c.append1.ensures.range;
      count = omega (
        arith,
        c.append1.ensures.len,
        c.append2.ensures.len,
        c.append_bytes.ensures.len,
        texts_at server_name_text view_server_name names i nameless h,
        length-name (view_server_name name),
      );
      room = omega (
        arith,
        c.append1.ensures.capacity,
        c.append2.ensures.capacity,
        c.append_bytes.ensures.capacity,
      );
    }
