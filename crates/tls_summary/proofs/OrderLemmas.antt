-- The order of a chain, from the front.
use Rattle.std.proofs.Common.{◌≡◌, Bool, true, false, ◌&&◌, List, [], ◌∷◌, length, map, Option, Some, None, refl, sym, ◌∙◌, ap}
use Rattle.std.specs.Prelude.{if◌then◌else◌, nat_lt}
use Rattle.std.specs.Option.{option_and_then, option_map}
use Rattle.std.proofs.lemmas.List.{length-map}
use Rattle.layouts.specs.Bytes.{Bytes}
use Rattle.x509.specs.NamePlaces.{EncodedNames}
use Rattle.tls_summary.specs.ChainOrder.{Order, chain_order, is_issuer, linked, names_of, no_certificate, order_after, order_behind, order_of}
use Rattle.tls_summary.specs.Parts.{summaries_of_all, summary_of_certificate}
use Rattle.tls_summary.specs.declared.parts.CertificateSummary.{CertificateSummary}

-- The order of the certificates at the front, and of the others behind them.
abbrev pub order_with : Order → List Bytes → Option Bool
order_with o chain =
    option_and_then (λ front. option_map (λ rest. front && rest) (order_behind o.issuer chain))
    o.is_in_order

both : (x y : Bool) (o : Option Bool)
    → option_map (λ r. (x && y) && r) o ≡ option_map (λ r. x && r) (option_map (λ r. y && r) o)
both true y None = refl
both true y (Some z) = refl
both false y None = refl
both false y (Some z) = refl

joined : (x : Option Bool) (k : Bool) (o : Option Bool)
    → option_and_then (λ f. option_map (λ r. f && r) o) (option_map (λ f. f && k) x)
    ≡ option_and_then (λ f. option_map (λ r. f && r) (option_map (λ r. k && r) o)) x
joined None k o = refl
joined (Some f) k o = both f k o

unread : (x : Option Bool) → None ≡ option_and_then (λ (f : Bool). option_map (λ r. f && r) None) x
unread None = refl
unread (Some f) = refl

more : (o : Order) (names : Option EncodedNames) (chain : List Bytes)
    → order_with (order_after o names) chain
    ≡ option_and_then
    (λ front. option_map (λ rest. front && rest)
    (linked o.issuer names (λ issuer. order_behind (Some issuer) chain)))
    o.is_in_order
more o None chain = unread o.is_in_order
more o (Some n) chain =
    joined o.is_in_order (is_issuer o.issuer n.subject) (order_behind (Some n.issuer) chain)

-- One certificate more at the front.
pub one_more : (o : Order) (b : Bytes) (chain : List Bytes)
    → order_with (order_after o (names_of b)) chain ≡ order_with o (b ∷ chain)
one_more o b chain = more o (names_of b) chain

-- None at the front.
pub from_none : (chain : List Bytes) → order_with no_certificate chain ≡ order_behind None chain
from_none chain = go (order_behind None chain)
  where
    go : (o : Option Bool) → option_map (λ rest. true && rest) o ≡ o
    go None = refl
    go (Some x) = refl

to_end : (o : Order) → order_with o [] ≡ o.is_in_order
to_end o = go o.is_in_order
  where
    go : (x : Option Bool) → option_and_then (λ f. Some (f && true)) x ≡ x
    go None = refl
    go (Some true) = refl
    go (Some false) = refl

-- All certificates at the front.
pub is_order_of_chain : (chain : List Bytes) (summaries : List CertificateSummary) (o : Order)
    → summaries ≡ summaries_of_all chain → order_with o [] ≡ order_behind None chain
    → order_of (length summaries) o ≡ chain_order chain
is_order_of_chain chain summaries o all ordered =
    let count : length summaries ≡ length chain =
    ap length all ∙ length-map chain summary_of_certificate in
    ap (λ n. order_of n o) count
    ∙ ap (λ x. if nat_lt (length chain) 2 then None else x) (sym (to_end o) ∙ ordered)
