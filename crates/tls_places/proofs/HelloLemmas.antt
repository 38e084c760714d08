-- The places of a ServerHello's parts.
use Rattle.std.proofs.Common.{
  ◌≡◌,
  ◌+◌,
  [],
  ◌==◌,
  ◌&&◌,
  nat_le,
  if◌then◌else◌,
  length,
  Option,
  Some,
  None,
  Ok,
  Bool,
  true,
  false,
  sym,
  subst,
  ◌∙◌,
  ap,
}
use Rattle.layouts.specs.Bytes.{Bytes}
use Rattle.layouts.specs.Layout.{Layout, done, number, block, maybe, choose, refuse, counted}
use Rattle.layouts.specs.Text.{held}
use Rattle.layouts.specs.Meaning.{Spells, Allows, EndsWith}
use Rattle.layouts.specs.declared.result.ErrorKind.TheVariants.{Tag}
use Rattle.layouts.proofs.EndLemmas.{ends}
use Rattle.tls_hs.specs.Hello.{session_id}
use Rattle.tls_hs.specs.ServerHello.{ServerHello, server_hello, server_hello_any, server_hello_ssl30, server_hello_with}
use Rattle.tls_places.specs.Place.{Stands, EndsIn}
use Rattle.tls_places.specs.Last.{LastStands}
use Rattle.tls_hs.specs.Places.{place_from}
use Rattle.tls_hs.proofs.PlacesLemmas.{
  Left,
  all_left,
  leads_left,
  leads_at,
  number_leads,
  block_leads,
  session_id_leads,
  held_begins,
}
use Rattle.tls_places.proofs.LastLemmas.{behind, counted_last, ends_in_after, maybe_last}

pub record Front (b : Bytes) (v : ServerHello) : Type 0 where
  pub random : Stands b (record { offset = 2; length = 32 }) v.random
  pub id : (x : Bytes) → v.session_id ≡ Some x
      → Stands b (record { offset = 35; length = length x }) x

front : (l : Layout (Option Bytes)) (b : Bytes) (v : ServerHello) (r d : Bytes)
    → Spells (server_hello_with l) b v r d
    → Front b v
unfolding Allows
front l b v r d (
  version,
  m1,
  d1,
  d2,
  first,
  (
    random,
    m2,
    d3,
    d4,
    second,
    (
      id,
      m3,
      d5,
      d6,
      third,
      (
        suite,
        m4,
        d7,
        d8,
        s4,
        (method, m5, d9, d10, s5, (ext, m6, d11, d12, s6, (is, last, e12), e11), e9),
        e7,
      ),
      e5,
    ),
    e4,
  ),
  e2,
) =
    let random_leads = block_leads 32 m1 random m2 (d3, second) in
    let random_left : Left b 2 m1 =
    leads_left 0 2 b b [] m1 (all_left b) (number_leads 2 b version m1 (d1, first)) in
    let at_random : Stands b (place_from 2 random) random =
    leads_at 2 0 b m1 random m2 random_left random_leads.0 in
    let at_id : Left b (2 + length random) m2 =
    leads_left 2 0 b m1 random m2 random_left random_leads.0 in
    let id_left : Left b 34 m2 = subst (λ n. Left b (2 + n) m2) random_leads.1 at_id in
    let id_at : Stands b (place_from 35 (held id)) (held id) =
    leads_at 34 1 b m2 (held id) m3 id_left (session_id_leads m2 id m3 (d5, third)) in
    record {
      random = subst (λ x. Stands b (record { offset = 2; length = 32 }) x)
          (sym (ap (λ y. y.random) is))
          (subst (λ n. Stands b (record { offset = 2; length = n }) random) random_leads.1
          at_random);
      id = λ x e. held_begins b 35 id id_at x (sym (ap (λ y. y.session_id) is) ∙ e);
    }

abbrev any : Layout (Option Bytes)
any = maybe (counted 2)

-- the extensions of a ServerHello
extensions_of : (l : Layout (Option Bytes)) → LastStands l (λ x. x)
    → (b : Bytes) (v : ServerHello) (r d : Bytes)
    → Spells (server_hello_with l) b v r d → EndsIn b v.extensions r
extensions_of l one b v r d (
  version,
  m1,
  d1,
  d2,
  s1,
  (
    random,
    m2,
    d3,
    d4,
    s2,
    (
      id,
      m3,
      d5,
      d6,
      s3,
      (
        suite,
        m4,
        d7,
        d8,
        s4,
        (method, m5, d9, d10, s5, (ext, m6, d11, d12, s6, (is, last, e12), e11), e9),
        e7,
      ),
      e5,
    ),
    e4,
  ),
  e2,
) =
    let at : EndsWith b m5 = behind (number 1) b m4 method m5 d9
    (behind (number 2) b m3 suite m4 d7 (behind session_id b m2 id m3 d5
    (behind (block 32) b m1 random m2 d3 (ends (number 2) b version m1 d1 s1) s2) s3) s4) s5 in
    subst (λ x. EndsIn b v.extensions x) last
    (subst (λ x. EndsIn b x m6) (sym (ap (λ y. y.extensions) is))
    (ends_in_after b m5 ext m6 at (one m5 ext m6 d11 s6)))

-- the parts of a body of either form
pub record Parts (b : Bytes) (v : ServerHello) (r : Bytes) : Type 0 where
  pub front : Front b v
  pub extensions : EndsIn b v.extensions r

parts_with : (l : Layout (Option Bytes)) → LastStands l (λ x. x)
    → (b : Bytes) (v : ServerHello) (r d : Bytes)
    → Spells (server_hello_with l) b v r d → Parts b v r
parts_with l one b v r d s =
    record { front = front l b v r d s; extensions = extensions_of l one b v r d s }

none_last : LastStands (done None) (λ x. x)
none_last b v r d (is, still, e) = subst (λ x. EndsIn b x r) (sym is) tt

parts_any : (b : Bytes) (v : ServerHello) (r d : Bytes) → Spells server_hello_any b v r d
    → Parts b v r
unfolding server_hello_any
parts_any = parts_with any (maybe_last (counted 2) (counted_last 2))

parts_ssl30 : (b : Bytes) (v : ServerHello) (r d : Bytes) → Spells server_hello_ssl30 b v r d
    → Parts b v r
unfolding server_hello_ssl30
parts_ssl30 = parts_with (done None) none_last

-- the version selects the form
chosen : (one other : Bool) (b : Bytes) (v : ServerHello) (r d : Bytes)
    → Spells (choose one server_hello_ssl30 (choose other server_hello_any (refuse Tag))) b v r d
    → Parts b v r
chosen true other b v r d s = parts_ssl30 b v r d s
chosen false true b v r d s = parts_any b v r d s
chosen false false b v r d s = absurd s

pub parts : (b r : Bytes) (v : ServerHello) → Allows server_hello b (Ok (v, r)) → Parts b v r
unfolding Allows server_hello
parts b r v (d, (version, m, d1, d2, (same, e1, looked), s, e)) =
    chosen (version == 0x0300) (nat_le 0x0301 version && nat_le version 0x0303) b v r d2
    (subst (λ x. Spells (choose (version == 0x0300) server_hello_ssl30
    (choose (nat_le 0x0301 version && nat_le version 0x0303) server_hello_any
    (refuse Tag))) x v r d2) (sym same) s)

pub parts_of_any : (b r : Bytes) (v : ServerHello) → Allows server_hello_any b (Ok (v, r))
    → Parts b v r
unfolding Allows
parts_of_any b r v (d, s) = parts_any b v r d s
