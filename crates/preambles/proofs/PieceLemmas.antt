-- Reading in pieces comes to where reading at once does.
use Rattle.std.proofs.Common.{◌≡◌, ℕ, ◌<◌, arith, length, true, false, cond, List, [], ◌∷◌, ◌++◌, refl, sym, ◌∙◌, ap}
use Rattle.preambles.proofs.WalkLemmas.{server_step, client_step}
use Rattle.preambles.specs.Pieces.{read_on}
use Rattle.preambles.specs.Walk.{Place, End, step, is_due, read_server, read}
use Rattle.preambles.specs.declared.phase.Side.TheVariants.{Client, Server}

at : Place → List ℕ → List ℕ → End
at p client server = record { place = p; client = client; server = server }

-- nothing is read where no side is due that has bytes
no_server : (client : List ℕ) (x : ℕ) (server : List ℕ) (p : Place) → is_due Server p ≡ false
    → is_due Client p ≡ false → read client (x ∷ server) p ≡ at p client (x ∷ server)
unfolding read read_server at
no_server [] x server p e f =
    let k : List ℕ → Place → End = λ s q. record { place = q; client = []; server = s } in
    ap (λ t. cond t (read_server k server (step p x)) (k (x ∷ server) p)) e
no_server (b ∷ client) x server p e f =
    let k : List ℕ → Place → End = λ s q. cond (is_due Client q) (read client s (step q b))
    (record { place = q; client = b ∷ client; server = s }) in
    ap (λ t. cond t (read_server k server (step p x)) (k (x ∷ server) p)) e
    ∙ ap (λ t. cond t (read client (x ∷ server) (step p b))
    (record { place = p; client = b ∷ client; server = x ∷ server })) f

no_client_left : (x : ℕ) (server : List ℕ) (p : Place) → is_due Server p ≡ false
    → read [] (x ∷ server) p ≡ at p [] (x ∷ server)
unfolding read read_server at
no_client_left x server p e =
    let k : List ℕ → Place → End = λ s q. record { place = q; client = []; server = s } in
    ap (λ t. cond t (read_server k server (step p x)) (k (x ∷ server) p)) e

no_server_left : (b : ℕ) (client : List ℕ) (p : Place) → is_due Client p ≡ false
    → read (b ∷ client) [] p ≡ at p (b ∷ client) []
unfolding read read_server at
no_server_left b client p f =
    ap (λ t. cond t (read client [] (step p b))
    (record { place = p; client = b ∷ client; server = [] })) f

none_left : (p : Place) → read [] [] p ≡ at p [] []
unfolding read read_server at
none_left p = refl

-- nothing is read where no side is due
pub stuck : (c s : List ℕ) (p : Place) → is_due Server p ≡ false → is_due Client p ≡ false
    → read c s p ≡ record { place = p; client = c; server = s }
unfolding at
stuck [] [] p e f = none_left p
stuck [] (x ∷ s) p e f = no_client_left x s p e
stuck (b ∷ c) [] p e f = no_server_left b c p f
stuck (b ∷ c) (x ∷ s) p e f = no_server (b ∷ c) x s p e f

-- nor where the side that is due has no bytes
pub none_due : (c s : List ℕ) (p : Place) → (0 < length c → is_due Client p ≡ false)
    → (0 < length s → is_due Server p ≡ false)
    → read c s p ≡ record { place = p; client = c; server = s }
unfolding at
none_due [] [] p e f = none_left p
none_due [] (x ∷ s) p e f = no_client_left x s p (f (omega arith))
none_due (b ∷ c) [] p e f = no_server_left b c p (e (omega arith))
none_due (b ∷ c) (x ∷ s) p e f = no_server (b ∷ c) x s p (f (omega arith)) (e (omega arith))

stays : (c1 c2 s1 s2 : List ℕ) (p : Place) → read c1 s1 p ≡ at p c1 s1
    → read (c1 ++ c2) (s1 ++ s2) p ≡ read_on (read c1 s1 p) c2 s2
unfolding at
stays c1 c2 s1 s2 p e = sym (ap (λ d. read_on d c2 s2) e)

pub pieces : (c1 c2 s1 s2 : List ℕ) (p : Place)
    → read (c1 ++ c2) (s1 ++ s2) p ≡ read_on (read c1 s1 p) c2 s2
pieces [] c2 [] s2 p = stays [] c2 [] s2 p (none_left p)
pieces [] c2 (x ∷ s1) s2 p =
    elim (is_due Server p) as (λ d. is_due Server p ≡ d
    → read c2 (x ∷ s1 ++ s2) p ≡ read_on (read [] (x ∷ s1) p) c2 s2) [
      | true ↦ λ e. server_step x c2 (s1 ++ s2) p e ∙ pieces [] c2 s1 s2 (step p x)
          ∙ sym (ap (λ d. read_on d c2 s2) (server_step x [] s1 p e))
      | false ↦ λ e. stays [] c2 (x ∷ s1) s2 p (no_client_left x s1 p e)
    ] refl
pieces (b ∷ c1) c2 [] s2 p =
    elim (is_due Client p) as (λ d. is_due Client p ≡ d
    → read (b ∷ c1 ++ c2) s2 p ≡ read_on (read (b ∷ c1) [] p) c2 s2) [
      | true ↦ λ e. client_step b (c1 ++ c2) s2 p e ∙ pieces c1 c2 [] s2 (step p b)
          ∙ sym (ap (λ d. read_on d c2 s2) (client_step b c1 [] p e))
      | false ↦ λ e. stays (b ∷ c1) c2 [] s2 p (no_server_left b c1 p e)
    ] refl
pieces (b ∷ c1) c2 (x ∷ s1) s2 p =
    elim (is_due Client p) as (λ d. is_due Client p ≡ d
    → read (b ∷ c1 ++ c2) (x ∷ s1 ++ s2) p ≡ read_on (read (b ∷ c1) (x ∷ s1) p) c2 s2) [
      | true ↦ λ e. client_step b (c1 ++ c2) (x ∷ s1 ++ s2) p e ∙ pieces c1 c2 (x ∷ s1) s2 (step p b)
          ∙ sym (ap (λ d. read_on d c2 s2) (client_step b c1 (x ∷ s1) p e))
      | false ↦ λ f. elim (is_due Server p) as (λ d. is_due Server p ≡ d
          → read (b ∷ c1 ++ c2) (x ∷ s1 ++ s2) p ≡ read_on (read (b ∷ c1) (x ∷ s1) p) c2 s2) [
            | true ↦ λ e. server_step x (b ∷ c1 ++ c2) (s1 ++ s2) p e
                ∙ pieces (b ∷ c1) c2 s1 s2 (step p x)
                ∙ sym (ap (λ d. read_on d c2 s2) (server_step x (b ∷ c1) s1 p e))
            | false ↦ λ e. stays (b ∷ c1) c2 (x ∷ s1) s2 p (no_server (b ∷ c1) x s1 p e f)
          ] refl
    ] refl
