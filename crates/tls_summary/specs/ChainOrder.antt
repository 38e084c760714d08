-- Whether the certificates of a chain are in order: each one's issuer is the subject of the next
-- (RFC 5246, section 7.4.2; RFC 8446, section 4.4.2).
--
-- Names are compared as they are encoded, byte for byte. By RFC 5280, section 7.1, names also match
-- that differ in the case, spaces or string type of their attributes; such a chain counts as out of
-- order. An authority's certificates nearly always repeat its subject's bytes.
use Rattle.std.specs.Prelude.{ℕ, Bool, true, ◌&&◌, if◌then◌else◌, nat_lt, List, [], ◌∷◌, length, Option, Some, None, Ok, Err}
use Rattle.std.specs.Option.{option_map}
use Rattle.std.specs.Str.{bytes_eq}
use Rattle.layouts.specs.Bytes.{Bytes}
use Rattle.layouts.specs.Meaning.{Answer}
use Rattle.layouts.specs.Reading.{reading}
use Rattle.x509.specs.Certificate.{certificate}
use Rattle.x509.specs.NamePlaces.{EncodedNames, name_places, names_at}
use Rattle.x509.specs.declared.name_places.NamePlaces.{NamePlaces}
use Rattle.tls_summary.specs.Parts.{fault_by, summary_of_certificate}
use Rattle.tls_summary.specs.declared.chain_order.Order.{Order as LentOrder}
use Rattle.tls_summary.specs.declared.parts.CertificateFacts.{CertificateFacts}
use Rattle.tls_summary.specs.declared.parts.CertificateFault.{CertificateFault}

-- The names of a certificate, if it parses and nothing follows it.
abbrev pub places_by : Option CertificateFault → Answer NamePlaces → Option NamePlaces
places_by None (Ok x) = Some x.0
places_by None (Err e) = None
places_by (Some fault) a = None

abbrev pub name_places_of : Bytes → Option NamePlaces
name_places_of b = places_by (fault_by (reading certificate b)) (reading name_places b)

abbrev pub names_of : Bytes → Option EncodedNames
names_of b = option_map (names_at b) (name_places_of b)

abbrev pub facts_of : Bytes → CertificateFacts
facts_of b = record { summary = summary_of_certificate b; names = name_places_of b }

-- The certificate before, if there is one, was issued by this subject.
abbrev pub is_issuer : Option Bytes → Bytes → Bool
is_issuer None subject = true
is_issuer (Some issuer) subject = bytes_eq issuer subject

-- A certificate behind one with this issuer, and whether those after it are in order; None if it
-- doesn't parse.
abbrev pub linked : Option Bytes → Option EncodedNames → (Bytes → Option Bool) → Option Bool
linked before None after = None
linked before (Some names) after =
    option_map (λ rest. is_issuer before names.subject && rest) (after names.issuer)

-- Certificates behind one with this issuer are in order; None if one of them doesn't parse.
abbrev pub order_behind : Option Bytes → List Bytes → Option Bool
order_behind before [] = Some true
order_behind before (b ∷ chain) =
    linked before (names_of b) (λ issuer. order_behind (Some issuer) chain)

-- A chain is in order; None if it has fewer than two certificates, or one doesn't parse.
abbrev pub chain_order : List Bytes → Option Bool
chain_order chain = if nat_lt (length chain) 2 then None else order_behind None chain

-- The order of the certificates at the front of a chain: None if one doesn't parse. And the issuer
-- of the last one.
pub record Order : Type 0 where
  pub is_in_order : Option Bool
  pub issuer : Option Bytes

abbrev pub view_order : LentOrder → Order
view_order o =
    record { is_in_order = o.is_in_order; issuer = option_map (λ x. x.now) o.issuer }

abbrev pub no_certificate : Order
no_certificate = record { is_in_order = Some true; issuer = None }

-- The order of a whole chain, which has so many certificates.
abbrev pub order_of : ℕ → Order → Option Bool
order_of count o = if nat_lt count 2 then None else o.is_in_order

-- The order with one certificate more, which has these names.
abbrev pub order_after : Order → Option EncodedNames → Order
order_after o None = record { is_in_order = None; issuer = None }
order_after o (Some names) = record {
  is_in_order = option_map (λ front. front && is_issuer o.issuer names.subject) o.is_in_order;
  issuer = Some names.issuer;
}
