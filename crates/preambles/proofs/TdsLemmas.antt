-- The TLS in packets is taken out whole, however they are cut.
use Rattle.std.proofs.Common.{◌≡◌, ◌+◌, ◌-◌, ◌*◌, ℕ, true, false, cond, not, List, [], ◌∷◌, ◌++◌, length, sym, ◌∙◌, ap, arith, append_assoc}
use Rattle.std.specs.Prelude.{fold}
use Rattle.std.proofs.lemmas.Bool.{le-leb, lt-leb}
use Rattle.std.proofs.lemmas.Grind.{fold-append}
use Rattle.std.proofs.lemmas.List.{append-nil}
use Rattle.preambles.specs.TdsPayload.{Holds, nothing, bare, packet, Taken, begun, behind_header, is_tls, next_position, taken_behind, taken_from, with_byte}
use Rattle.preambles.specs.declared.tds_payload.Position.{Position}
use Rattle.preambles.specs.declared.tds_payload.Position.TheVariants.{Header, Payload, Bare}

abbrev at : Position → List ℕ → Taken
at p tls = record { position = p; tls = tls }

abbrev behind : List ℕ → Taken → Taken
behind front t = record { position = t.position; tls = front ++ t.tls }

-- what was taken before stays in front
grows : (p : Position) (front bytes : List ℕ)
    → fold with_byte (at p front) bytes ≡ behind front (taken_from p bytes)
grows p front [] = ap (at p) (sym (append-nil front))
grows p front (b ∷ bytes) =
    let q : Position = next_position p b in
    let t : Taken = taken_from q bytes in
    elim (is_tls p b) as (λ is. fold with_byte (at q (cond is (front ++ b ∷ []) front)) bytes
    ≡ behind front (fold with_byte (at q (cond is (b ∷ []) [])) bytes)) [
      | true ↦ grows q (front ++ b ∷ []) bytes
          ∙ ap (at t.position) (append_assoc front (b ∷ []) t.tls)
          ∙ sym (ap (behind front) (grows q (b ∷ []) bytes))
      | false ↦ grows q front bytes
    ]

pub cut : (p : Position) (bytes more : List ℕ)
    → taken_from p (bytes ++ more) ≡ taken_behind (taken_from p bytes) more
cut p bytes more =
    fold-append with_byte (at p []) bytes more
    ∙ grows (taken_from p bytes).position (taken_from p bytes).tls more

-- a payload is taken whole
payload_taken : (n x : ℕ) (front payload rest : List ℕ) → n ≡ length payload + 1
    → fold with_byte (at (Payload n) front) (x ∷ payload ++ rest)
    ≡ fold with_byte (at begun (front ++ x ∷ payload)) rest
unfolding next_position is_tls
payload_taken n x front [] rest e =
    ap (λ t. fold with_byte (at (cond t begun (Payload (n - 1))) (front ++ x ∷ [])) rest)
    (le-leb n 1 (omega (arith, e)))
payload_taken n x front (y ∷ payload) rest e =
    ap (λ t. fold with_byte (at (cond t begun (Payload (n - 1))) (front ++ x ∷ []))
    (y ∷ payload ++ rest)) (lt-leb n 1 (omega (arith, e)))
    ∙ payload_taken (n - 1) y (front ++ x ∷ []) payload rest (omega (arith, e))
    ∙ ap (λ f. fold with_byte (at begun f) rest) (append_assoc front (x ∷ []) (y ∷ payload))

packet_taken : (n : ℕ) (front payload rest : List ℕ) → n ≡ length payload + 8
    → fold with_byte (at (behind_header n) front) (payload ++ rest)
    ≡ fold with_byte (at begun (front ++ payload)) rest
packet_taken n front [] rest e =
    ap (λ t. fold with_byte (at (cond t begun (Payload (n - 8))) front) rest)
    (le-leb n 8 (omega (arith, e)))
    ∙ ap (λ f. fold with_byte (at begun f) rest) (sym (append-nil front))
packet_taken n front (x ∷ payload) rest e =
    ap (λ t. fold with_byte (at (cond t begun (Payload (n - 8))) front) (x ∷ payload ++ rest))
    (lt-leb n 8 (omega (arith, e)))
    ∙ payload_taken (n - 8) x front payload rest (omega (arith, e))

bare_taken : (front rest : List ℕ)
    → fold with_byte (at Bare front) rest ≡ at Bare (front ++ rest)
unfolding next_position is_tls
bare_taken front [] = ap (at Bare) (sym (append-nil front))
bare_taken front (b ∷ rest) =
    bare_taken (front ++ b ∷ []) rest ∙ ap (at Bare) (append_assoc front (b ∷ []) rest)

held_behind : {bytes tls : List ℕ} (front : List ℕ) → Holds bytes tls
    → (fold with_byte (at begun front) bytes).tls ≡ front ++ tls
unfolding next_position is_tls
held_behind front nothing = sym (append-nil front)
held_behind front (bare b rest h) =
    ap (λ t. (fold with_byte (at (cond (not t) Bare (Header 1 0 0))
    (cond (not t) (front ++ b ∷ []) front)) rest).tls) h
    ∙ ap (λ t. t.tls) (bare_taken (front ++ b ∷ []) rest)
    ∙ append_assoc front (b ∷ []) rest
held_behind front (packet status high low spid1 spid2 number window payload bytes tls e h) =
    ap (λ t. t.tls) (packet_taken (high * 256 + low) front payload bytes e)
    ∙ held_behind (front ++ payload) h
    ∙ append_assoc front payload tls

pub held : (bytes tls : List ℕ) → Holds bytes tls → (taken_from begun bytes).tls ≡ tls
held bytes tls h = held_behind [] h
