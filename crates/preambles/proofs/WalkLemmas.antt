-- Reading both sides byte by byte.
use Rattle.std.proofs.Common.{◌≡◌, ℕ, suc, ◌+◌, ◌<◌, true, false, cond, List, [], ◌∷◌, ◌++◌, length, drop, get_or, Option, Some, None, refl, sym, ◌∙◌, ap, add-one}
use Rattle.std.proofs.Math.Seq.{drop-cons}
use Rattle.preambles.specs.Rows.{reads}
use Rattle.preambles.specs.Walk.{Place, End, step, is_due, is_side, read_server, read, walk_behind}
use Rattle.preambles.specs.declared.phase.Side.{Side}
use Rattle.preambles.specs.declared.phase.Side.TheVariants.{Client, Server}

-- only one side is read at a time
one_side : (o : Option Side) → is_side Client o ≡ true → is_side Server o ≡ false
one_side None e = refl
one_side (Some Client) e = refl
one_side (Some Server) e = cc

not_server : (p : Place) → is_due Client p ≡ true → is_due Server p ≡ false
unfolding is_due
not_server p e = one_side (reads p.phase) e

-- a byte of the server that is due
pub server_step : (b : ℕ) (client server : List ℕ) (p : Place) → is_due Server p ≡ true
    → read client (b ∷ server) p ≡ read client server (step p b)
unfolding read read_server
server_step b [] server p e =
    let k : List ℕ → Place → End = λ s q. record { place = q; client = []; server = s } in
    ap (λ t. cond t (read_server k server (step p b)) (k (b ∷ server) p)) e
server_step b (x ∷ client) server p e =
    let k : List ℕ → Place → End = λ s q. cond (is_due Client q) (read client s (step q x))
    (record { place = q; client = x ∷ client; server = s }) in
    ap (λ t. cond t (read_server k server (step p b)) (k (b ∷ server) p)) e

client_first : (b : ℕ) (client server : List ℕ) (p : Place) → is_due Client p ≡ true
    → cond (is_due Client p) (read client server (step p b))
    (record { place = p; client = b ∷ client; server = server })
    ≡ read client server (step p b)
client_first b client server p e =
    ap (λ t. cond t (read client server (step p b))
    (record { place = p; client = b ∷ client; server = server })) e

-- a byte of the client that is due
pub client_step : (b : ℕ) (client server : List ℕ) (p : Place) → is_due Client p ≡ true
    → read (b ∷ client) server p ≡ read client server (step p b)
unfolding read read_server
client_step b client [] p e = client_first b client [] p e
client_step b client (x ∷ server) p e =
    let k : List ℕ → Place → End = λ s q. cond (is_due Client q) (read client s (step q b))
    (record { place = q; client = b ∷ client; server = s }) in
    ap (λ t. cond t (read_server k server (step p x)) (k (x ∷ server) p)) (not_server p e)
    ∙ client_first b client (x ∷ server) p e

pub one_more : (s : Side) (b : ℕ) (bytes client server : List ℕ) (p : Place) → is_due s p ≡ true
    → walk_behind s (b ∷ bytes) client server p ≡ walk_behind s bytes client server (step p b)
unfolding walk_behind
one_more Client b bytes client server p e = client_step b (bytes ++ client) server p e
one_more Server b bytes client server p e = server_step b client (bytes ++ server) p e

-- reading a byte of a piece
walk_suc : (s : Side) (bytes client server : List ℕ) (p : Place) (i : ℕ) → i < length bytes
    → is_due s p ≡ true
    → walk_behind s (drop i bytes) client server p
    ≡ walk_behind s (drop (suc i) bytes) client server (step p (get_or bytes i 0))
walk_suc s bytes client server p i h e =
    ap (λ d. walk_behind s d client server p) (drop-cons bytes i 0 h)
    ∙ one_more s (get_or bytes i 0) (drop (suc i) bytes) client server p e

pub walk_step : (s : Side) (bytes client server : List ℕ) (p : Place) (i : ℕ) → i < length bytes
    → is_due s p ≡ true
    → walk_behind s (drop i bytes) client server p
    ≡ walk_behind s (drop (i + 1) bytes) client server (step p (get_or bytes i 0))
walk_step s bytes client server p i h e =
    walk_suc s bytes client server p i h e
    ∙ ap (λ k. walk_behind s (drop k bytes) client server (step p (get_or bytes i 0)))
    (sym (add-one i))

-- one more byte of a side is read
pub client_more : (client server : List ℕ) (p : Place) (i : ℕ) → i < length client
    → is_due Client p ≡ true
    → read (drop i client) server p ≡ read (drop (i + 1) client) server (step p (get_or client i 0))
client_more client server p i h e =
    ap (λ d. read d server p) (drop-cons client i 0 h)
    ∙ client_step (get_or client i 0) (drop (suc i) client) server p e
    ∙ ap (λ k. read (drop k client) server (step p (get_or client i 0))) (sym (add-one i))

pub server_more : (client server : List ℕ) (p : Place) (i : ℕ) → i < length server
    → is_due Server p ≡ true
    → read client (drop i server) p ≡ read client (drop (i + 1) server) (step p (get_or server i 0))
server_more client server p i h e =
    ap (λ d. read client d p) (drop-cons server i 0 h)
    ∙ server_step (get_or server i 0) client (drop (suc i) server) p e
    ∙ ap (λ k. read client (drop k server) (step p (get_or server i 0))) (sym (add-one i))
