-- Certificates as C structs.
use Rattle.std.proofs.Common.{◌≡◌, Option, Some, None, refl, sym, subst}
use Rattle.std.specs.Prelude.{List}
use Rattle.std.specs.Option.{option_map}
use Rattle.layouts.specs.Bytes.{Bytes}
use Rattle.layouts.specs.Items.{items_in}
use Rattle.layouts.specs.Layout.{Layout}
use Rattle.layouts.specs.declared.places.Place.{Place}
use Rattle.der.specs.Element.{view_element}
use Rattle.der.specs.declared.element.Element.{Element as LentElement}
use Rattle.tls_places.specs.Place.{Stands, MayStand}
use Rattle.x509.specs.GeneralName.{view_general_name}
use Rattle.x509.specs.Name.{AttributeTypeAndValue}
use Rattle.x509.specs.declared.general_name.GeneralName.{GeneralName as LentGeneralName}
use Rattle.x509.specs.declared.general_name.GeneralName.TheVariants as lent
use Rattle.x509_places.specs.Place as certificates
use Rattle.x509_places.specs.Place.{NameStands}
use Rattle.x509_places.specs.Walk.{name_content}
use Rattle.wispuddera_c.specs.Certificate.{content_of_name}
use Rattle.wispuddera_c.specs.Place.{ItemsStandAt, place_of}
use Rattle.wispuddera_c.specs.declared.place.Place.{Place as CPlace}
use Rattle.wispuddera_c.proofs.PlaceLemmas.{items_stand}

-- a place in a certificate is one in the caller's bytes
stands : (b x : Bytes) (p : Place) → certificates.Stands b p x → Stands b p x
stands b x p s = record { is = s.is; within = s.within }

pub in_c_stands : (b x : Bytes) (c : CPlace) (p : Place) → place_of c ≡ p
    → certificates.Stands b p x
    → Stands b (place_of c) x
in_c_stands b x c p same s = subst (λ q. Stands b q x) (sym same) (stands b x p s)

pub may_stand : (b : Bytes) (p : Option Place) (x : Option Bytes) → certificates.MayStand b p x
    → MayStand b p x
may_stand b (Some p) (Some x) s = stands b x p s
may_stand b None None s = tt
may_stand b (Some p) None s = absurd s
may_stand b None (Some x) s = absurd s

pub name_in_c : (b : Bytes) (n : List (List AttributeTypeAndValue)) (c : CPlace) (p : Place)
    → place_of c ≡ p
    → NameStands b p n → NameStands b (place_of c) n
name_in_c b n c p same s = subst (λ q. NameStands b q n) (sym same) s

pub items_in_c : {A : Type 0} (l : Layout A) (b x : Bytes) (c : CPlace) (p : Place) → place_of c ≡ p
    → certificates.Stands b p x → ItemsStandAt l b c (items_in l x)
items_in_c l b x c p same s = items_stand l b c p x same (stands b x p s)

-- the content of parameters, as a view
pub viewed : (e : Option LentElement)
    → option_map (λ x. x.content.now) e ≡ option_map (λ x. x.content) (option_map view_element e)
viewed (Some e) = refl
viewed None = refl

pub name_viewed : (n : LentGeneralName) → name_content n ≡ content_of_name (view_general_name n)
name_viewed (lent.Rfc822Name b) = refl
name_viewed (lent.DnsName b) = refl
name_viewed (lent.UniformResourceIdentifier b) = refl
name_viewed (lent.IpAddress b) = refl
name_viewed (lent.Other e) = refl
