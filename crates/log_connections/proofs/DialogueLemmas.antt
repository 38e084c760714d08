-- The dialogue in front of TLS.
use Rattle.std.proofs.Common.{◌≡◌, ◌≤◌, ◌∙◌, ◌+◌, ◌-◌, ℕ, Bool, true, false, cond, List, [], ◌∷◌, ◌++◌, Option, None, length, drop, refl, sym, ap, subst, arith}
use Rattle.std.specs.Prelude.{◌||◌, nat_lt}
use Rattle.std.proofs.lemmas.Bool.{eqb-true, le-ltb}
use Rattle.std.proofs.lemmas.List.{length-append}
use Rattle.preambles.proofs.DialogueLemmas.{begins_behind_dialogue}
use Rattle.preambles.specs.Dialogues.{Keeps, byte, client_reads, ended, over}
use Rattle.preambles.specs.Rows.{first_byte, first_unit, frame_of, is_text, next, outcome_of, reads}
use Rattle.preambles.specs.Walk.{End, Place, begun, read}
use Rattle.preambles.specs.declared.phase.Outcome.TheVariants as outcome
use Rattle.preambles.specs.declared.phase.Phase.TheVariants.{Opening, Over}
use Rattle.preambles.specs.declared.phase.Protocol.{Protocol}
use Rattle.log_connections.specs.Dialogue.{GoesOn, Unknown, are_too_many, begun_by, begins_record, reader_at, reading_on, staying, stepped, stepped_by, stepped_from, unknown_behind}

-- A client's first byte of 22, of a handshake record, begins no dialogue.
begins_none : Keeps Opening (22 ∷ []) [] (Over outcome.Unknown)
unfolding next first_unit first_byte is_text frame_of reads
begins_none = client_reads Opening (Over outcome.Unknown) (22 ∷ []) (22 ∷ []) [] [] refl
    (byte 22 refl refl) (over (Over outcome.Unknown))

record_is_unknown : (client server : List ℕ)
    → read (22 ∷ client) server begun ≡ ended outcome.Unknown client server
record_is_unknown client server =
    begins_behind_dialogue outcome.Unknown client server begins_none

unknown_stays : (client server : List ℕ)
    → stepped_from None (22 ∷ client) server (ended outcome.Unknown client server)
    ≡ staying Unknown
unfolding outcome_of
unknown_stays client server = refl

either : (b : Bool) (client server : List ℕ) (e : End) → e ≡ ended outcome.Unknown client server
    → cond b (staying Unknown) (stepped_from None (22 ∷ client) server e) ≡ staying Unknown
either true client server e is = refl
either false client server e is =
    ap (stepped_from None (22 ∷ client) server) is ∙ unknown_stays client server

handshake_in_front : (client server : List ℕ)
    → stepped (GoesOn None begun 0 0) (22 ∷ client) server ≡ staying Unknown
unfolding stepped
handshake_in_front client server =
    either (are_too_many (22 ∷ client) server) client server
    (read (drop 0 (22 ∷ client)) (drop 0 server) begun) (record_is_unknown client server)

-- A client that begins with a handshake record is in no dialogue.
pub record_in_front : (client server : List ℕ) → begins_record client ≡ true
    → stepped (GoesOn None begun 0 0) client server ≡ staying Unknown
record_in_front [] server is = cc
record_in_front (b ∷ client) server is =
    subst (λ x. stepped (GoesOn None begun 0 0) (x ∷ client) server ≡ staying Unknown)
    (sym (eqb-true b 22 is)) (handshake_in_front client server)

-- By whether too many bytes wait.
pub stepped_if : (b : Bool) (tunnel : Option Protocol) (p : Place) (i j : ℕ) (client server : List ℕ)
    → are_too_many client server ≡ b
    → stepped (GoesOn tunnel p i j) client server
    ≡ cond b (staying (unknown_behind tunnel))
    (stepped_from tunnel client server (read (drop i client) (drop j server) p))
unfolding stepped
stepped_if b tunnel p i j client server is =
    ap (λ x. cond x (staying (unknown_behind tunnel))
    (stepped_from tunnel client server (read (drop i client) (drop j server) p))) is

-- What is read on behind the bytes that were read before.
pub reader_behind : (p q : Place) (i j m n k l : ℕ) (client server b d : List ℕ)
    → b ≡ drop i client → d ≡ drop j server
    → read b d p ≡ record { place = q; client = drop k b; server = drop l d }
    → m ≡ length client - length (drop k (drop i client))
    → n ≡ length server - length (drop l (drop j server))
    → record { place = q; client = m; server = n }
    ≡ reading_on (record { place = p; client = i; server = j }) client server
reader_behind p q i j m n k l client server b d first second is from_client from_server =
    let e : End = record {
      place = q;
      client = drop k (drop i client);
      server = drop l (drop j server);
    } in
    let reads : read (drop i client) (drop j server) p ≡ e =
    subst
    (λ y. read (drop i client) y p ≡ record {
      place = q;
      client = drop k (drop i client);
      server = drop l y;
    }) second
    (subst (λ x. read x d p ≡ record { place = q; client = drop k x; server = drop l d }) first is) in
    ap {A = ℕ} (λ z. record { place = q; client = z; server = n }) from_client
    ∙ ap {A = ℕ} (λ z. record {
      place = q;
      client = length client - length (drop k (drop i client));
      server = z;
    }) from_server
    ∙ sym (ap (reader_at client server) reads)

-- A dialogue that keeps to its grammar is passed whole, and no byte behind it.
pub heard : (client server more_client more_server : List ℕ) (p : Protocol)
    → Keeps Opening client server (Over (outcome.Tls p))
    → length (client ++ more_client) ≤ 65536 → length (server ++ more_server) ≤ 65536
    → stepped (GoesOn None begun 0 0) (client ++ more_client) (server ++ more_server)
    ≡ record { state = begun_by p; client = length client; server = length server }
unfolding outcome_of
heard client server more_client more_server p keeps few many =
    let c = client ++ more_client in
    let s = server ++ more_server in
    let fits : are_too_many c s ≡ false =
    ap (λ t. t || nat_lt 65536 (length s)) (le-ltb 65536 (length c) few)
    ∙ le-ltb 65536 (length s) many in
    let of_client : length c - length more_client ≡ length client =
    omega (arith, length-append client more_client) in
    let of_server : length s - length more_server ≡ length server =
    omega (arith, length-append server more_server) in
    stepped_if false None begun 0 0 c s fits
    ∙ ap (stepped_from None c s) (begins_behind_dialogue (outcome.Tls p) more_client more_server keeps)
    ∙ ap {A = ℕ}
    (λ n. record {
      state = begun_by p;
      client = n;
      server = length s - length more_server;
    }) of_client
    ∙ ap {A = ℕ} (λ n. record { state = begun_by p; client = length client; server = n }) of_server
