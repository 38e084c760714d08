-- The last part of a structure: three ways to combine layouts, and each structure built from them.
use Rattle.std.proofs.Common.{◌≡◌, ℕ, [], Option, Some, None, Bool, true, false, refl, sym, subst, ap, ◌∙◌}
use Rattle.layouts.specs.Bytes.{Bytes}
use Rattle.layouts.specs.Layout.{Layout, done, number, block, maybe, chain, choose, counted}
use Rattle.layouts.specs.Meaning.{EndsWith, Allows, Spells}
use Rattle.layouts.specs.Framed.{Framed, framed}
use Rattle.layouts.proofs.EndLemmas.{ends, ends_after}
use Rattle.tls_ext.specs.Content.{server_name, oid_filter}
use Rattle.tls_ext.specs.Extension.{ServerName, OidFilter}
use Rattle.tls_places.specs.Place.{EndsIn}
use Rattle.tls_places.specs.Last.{LastStands, StandsLast}

pub ends_in_after : (b m : Bytes) (x : Option Bytes) (r : Bytes) → EndsWith b m → EndsIn m x r
    → EndsIn b x r
ends_in_after b m None r at s = tt
ends_in_after b m (Some x) r at s = ends_after b m _ at s

pub block_last : (n : ℕ) → LastStands (block n) (λ x. Some x)
block_last n b v r d s = ([], s.1)

pub chain_last : {A B : Type 0} (l : Layout A) (f : A → Layout B) (last : B → Option Bytes)
    → ((a : A) → LastStands (f a) last) → LastStands (chain l f) last
chain_last l f last more b v r d (a, m, d1, d2, s, t, e) =
    ends_in_after b m (last v) r (ends l b a m d1 s) (more a m v r d2 t)

-- a value built from the part
pub made_last : {A B : Type 0} (l : Layout A) (f : A → B) (last : A → Option Bytes)
    (of : B → Option Bytes)
    → ((a : A) → of (f a) ≡ last a) → LastStands l last → LastStands (chain l (λ x. done (f x))) of
made_last l f last of same more b v r d (a, m, d1, d2, s, (is, still, e2), e) =
    let at : EndsIn b (of v) m =
    subst (λ x. EndsIn b x m) (sym (same a) ∙ ap of (sym is)) (more b a m d1 s) in
    subst (λ x. EndsIn b (of v) x) still at

pub choose_last : {A : Type 0} (c : Bool) (l m : Layout A) (last : A → Option Bytes)
    → LastStands l last
    → LastStands m last → LastStands (choose c l m) last
choose_last true l m last one other = one
choose_last false l m last one other = other

-- an optional part
pub maybe_last : (l : Layout Bytes) → LastStands l (λ x. Some x) → LastStands (maybe l) (λ x. x)
maybe_last l one b None r d s = tt
maybe_last l one b (Some x) r d s = one b x r d s

pub counted_last : (k : ℕ) → LastStands (counted k) (λ x. Some x)
counted_last k = chain_last (number k) (λ n. block n) (λ x. Some x) block_last

pub framed_last : (w k : ℕ) → LastStands (framed w k) (λ v. Some v.content)
unfolding framed
framed_last w k =
    chain_last (number w)
    (λ kind. chain (counted k) (λ content. done (record { kind = kind; content = content })))
    (λ v. Some v.content)
    (λ kind. made_last (counted k) (λ content. record { kind = kind; content = content })
    (λ x. Some x)
    (λ v. Some v.content) (λ x. refl) (counted_last k))

-- for an allowed answer
pub allowed_last : {A : Type 0} (l : Layout A) (last : A → Bytes)
    → LastStands l (λ v. Some (last v)) → (v : A)
    → StandsLast l v (last v)
unfolding Allows
allowed_last l last more v b r (d, s) = more b v r d s

pub frame_is_last : (w k : ℕ) (v : Framed) → StandsLast (framed w k) v v.content
frame_is_last w k = allowed_last (framed w k) (λ v. v.content) (framed_last w k)

pub counted_is_last : (k : ℕ) (v : Bytes) → StandsLast (counted k) v v
counted_is_last k = allowed_last (counted k) (λ v. v) (counted_last k)

server_name_last : LastStands server_name (λ v. Some v.name)
unfolding server_name
server_name_last =
    chain_last (number 1)
    (λ kind. chain (counted 2) (λ name. done (record { name_type = kind; name = name })))
    (λ v. Some v.name)
    (λ kind. made_last (counted 2) (λ name. record { name_type = kind; name = name }) (λ x. Some x)
    (λ v. Some v.name)
    (λ x. refl) (counted_last 2))

pub server_name_is_last : (v : ServerName) → StandsLast server_name v v.name
server_name_is_last = allowed_last server_name (λ v. v.name) server_name_last

oid_filter_last : LastStands oid_filter (λ v. Some v.certificate_extension_values)
unfolding oid_filter
oid_filter_last =
    chain_last (counted 1) (λ oid. chain (counted 2)
    (λ values. done
    (record { certificate_extension_oid = oid; certificate_extension_values = values })))
    (λ v. Some v.certificate_extension_values)
    (λ oid. made_last (counted 2) (λ values. record {
      certificate_extension_oid = oid;
      certificate_extension_values =
          values;
    }) (λ x. Some x) (λ v. Some v.certificate_extension_values) (λ x. refl) (counted_last 2))

pub oid_filter_is_last : (v : OidFilter) → StandsLast oid_filter v v.certificate_extension_values
oid_filter_is_last = allowed_last oid_filter (λ v. v.certificate_extension_values) oid_filter_last

-- the rest of what is parsed
pub behind : {A : Type 0} (l : Layout A) (b m : Bytes) (a : A) (r d : Bytes) → EndsWith b m
    → Spells l m a r d
    → EndsWith b r
behind l b m a r d at s = ends_after b m r at (ends l m a r d s)
