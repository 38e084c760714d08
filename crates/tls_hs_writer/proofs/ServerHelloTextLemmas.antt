-- The bodies of a ServerHello, and of one of draft 18, are encoded by their texts, and by no other
-- bytes.
use Rattle.std.proofs.Common.{◌≡◌, ◌≢◌, ℕ, ◌^◌, ◌<◌, ◌≤◌, [], ◌++◌, length, Option, Some, None, Bool, true, false, eqb}
use Rattle.std.proofs.Common.{nat_le, refl, sym, ◌∙◌, ap, subst, arith, append_assoc, append-nil, ◌==◌, ◌&&◌}
use Rattle.std.proofs.Common.{if◌then◌else◌}
use Rattle.std.proofs.lemmas.Bool.{le-leb, eqb-false}
use Rattle.std.specs.Option.{IsSome}
use Rattle.layouts.specs.Bytes.{Bytes, bytes_of}
use Rattle.layouts.specs.Layout.{Layout, done, refuse, number, block, maybe, look, chain, choose, counted}
use Rattle.layouts.specs.Meaning.{Spells}
use Rattle.layouts.specs.declared.result.ErrorKind.TheVariants.{Tag}
use Rattle.tls_hs.specs.Hello.{session_id}
use Rattle.tls_hs.specs.ServerHello.{ServerHello, ServerHelloDraft18, server_hello_any, server_hello_ssl30}
use Rattle.tls_hs.specs.ServerHello.{server_hello, server_hello_draft18}
use Rattle.layouts.specs.Text.{counted_text, held}
use Rattle.tls_hs.specs.HandshakeText.{normal_id, server_hello_text, FitsServerHello, InRangeServerHello}
use Rattle.tls_hs.specs.HandshakeText.{normal_server_hello, server_hello_draft18_text, FitsServerHelloDraft18}
use Rattle.tls_hs.specs.HandshakeText.{InRangeServerHelloDraft18, normal_server_hello_draft18}
use Rattle.layouts.proofs.TextLemmas.{First, Second, picked, picks_first, picks_second, parts, joined}
use Rattle.layouts.proofs.TextLemmas.{counted_spelled, number_spelled}
use Rattle.tls_hs_writer.proofs.ClientHelloTextLemmas.{session_id_spelled, session_id_whole, extensions_whole, and_true}

-- the layouts after each field, up to where the forms differ
module _ (last : ℕ → Bytes → Option Bytes → ℕ → ℕ → Layout ServerHello) where
  abbrev behind_suite : ℕ → Bytes → Option Bytes → ℕ → Layout ServerHello
  behind_suite version random id suite = chain (number 1) (last version random id suite)

  abbrev behind_id : ℕ → Bytes → Option Bytes → Layout ServerHello
  behind_id version random id = chain (number 2) (behind_suite version random id)

  abbrev behind_random : ℕ → Bytes → Layout ServerHello
  behind_random version random = chain session_id (behind_id version random)

  abbrev behind_version : ℕ → Layout ServerHello
  behind_version version = chain (block 32) (behind_random version)

  abbrev fields : Layout ServerHello
  fields = chain (number 2) behind_version

  fields_spelled : (h : ServerHello) (q : Bytes) (v : ServerHello) (r : Bytes) → FitsServerHello h
      → InRangeServerHello h
      → Spells (last h.server_version h.random (normal_id h.session_id) h.cipher_suite
      h.compression_method) q v r []
      → Spells fields (bytes_of 2 h.server_version ++ (h.random
      ++ (counted_text 1 (held h.session_id) ++ (bytes_of 2 h.cipher_suite
      ++ (bytes_of 1 h.compression_method ++ q))))) v r []
  fields_spelled h q v r fits range s =
      let id = normal_id h.session_id in
      let m1 = bytes_of 1 h.compression_method ++ q in
      let m2 = bytes_of 2 h.cipher_suite ++ m1 in
      let m3 = counted_text 1 (held h.session_id) ++ m2 in
      joined (number 2) behind_version (bytes_of 2 h.server_version ++ (h.random ++ m3)) v r
      h.server_version
      (h.random ++ m3) (number_spelled 2 h.server_version (h.random ++ m3) range.version)
      (joined (block 32) (behind_random h.server_version) (h.random ++ m3) v r h.random m3
      (fits.random, refl, refl)
      (joined session_id (behind_id h.server_version h.random) m3 v r id m2
      (session_id_spelled h.session_id m2 fits.session_id)
      (joined (number 2) (behind_suite h.server_version h.random id) m2 v r h.cipher_suite m1
      (number_spelled 2 h.cipher_suite m1 range.suite)
      (joined (number 1) (last h.server_version h.random id h.cipher_suite) m1 v r
      h.compression_method q
      (number_spelled 1 h.compression_method q range.method) s))))

  record Fields (b : Bytes) (v : ServerHello) (r : Bytes) : Type 0 where
    pub version : ℕ
    pub random : Bytes
    pub id : Option Bytes
    pub suite : ℕ
    pub method : ℕ
    pub behind : Bytes
    pub version_fits : version < 256 ^ 2
    pub random_fits : length random ≡ 32
    pub id_fits : length (held id) ≤ 32
    pub suite_fits : suite < 256 ^ 2
    pub method_fits : method < 256 ^ 1
    pub is : b ≡ bytes_of 2 version
        ++ (random ++ (counted_text 1
        (held id) ++ (bytes_of 2 suite ++ (bytes_of 1 method ++ behind))))
    pub ending : Spells (last version random id suite method) behind v r []

  fields_whole : (b : Bytes) (v : ServerHello) (r : Bytes) → Spells fields b v r [] → Fields b v r
  fields_whole b v r s =
      let p1 = parts (number 2) behind_version b v r s in
      let p2 = parts (block 32) (behind_random p1.value) p1.middle v r p1.then in
      let p3 = parts session_id (behind_id p1.value p2.value) p2.middle v r p2.then in
      let p4 = parts (number 2) (behind_suite p1.value p2.value p3.value) p3.middle v r p3.then in
      let p5 = parts (number 1) (last p1.value p2.value p3.value p4.value) p4.middle v r p4.then in
      let i = session_id_whole p2.middle p3.value p3.middle p3.first in
      record {
        version = p1.value;
        random = p2.value;
        id = p3.value;
        suite = p4.value;
        method = p5.value;
        behind = p5.middle;
        version_fits = p1.first.0;
        random_fits = p2.first.0;
        id_fits = i.0;
        suite_fits = p4.first.0;
        method_fits = p5.first.0;
        is = p1.first.1 ∙ ap (λ x. bytes_of 2 p1.value ++ x)
            (p2.first.1 ∙ ap (λ x. p2.value ++ x)
            (i.1 ∙ ap (λ x. counted_text 1 (held p3.value) ++ x)
            (p4.first.1 ∙ ap (λ x. bytes_of 2 p4.value ++ x) p5.first.1)));
        ending = p5.then;
      }

abbrev hello_of : ℕ → Bytes → Option Bytes → ℕ → ℕ → Option Bytes → ServerHello
hello_of version random id suite method extensions = record {
  server_version = version;
  random = random;
  session_id = id;
  cipher_suite = suite;
  compression_method = method;
  extensions = extensions;
}

abbrev with_extensions : ℕ → Bytes → Option Bytes → ℕ → ℕ → Layout ServerHello
with_extensions version random id suite method =
    chain (maybe (counted 2)) (λ e. done (hello_of version random id suite method e))

abbrev without : ℕ → Bytes → Option Bytes → ℕ → ℕ → Layout ServerHello
without version random id suite method =
    chain (done None) (λ e. done (hello_of version random id suite method e))

nested : (a b c d e f r : Bytes)
    → a ++ b ++ c ++ d ++ e ++ f ++ r ≡ a ++ (b ++ (c ++ (d ++ (e ++ (f ++ r)))))
nested a b c d e f r = simp append_assoc

abbrev nested_text : ServerHello → Bytes → Bytes
nested_text h r =
    bytes_of 2 h.server_version ++ (h.random ++ (counted_text 1 (held h.session_id)
    ++ (bytes_of 2 h.cipher_suite ++ (bytes_of 1 h.compression_method
    ++ (counted_text 2 (held h.extensions) ++ r)))))

text_nested : (h : ServerHello) (r : Bytes) → server_hello_text h ++ r ≡ nested_text h r
unfolding server_hello_text
text_nested h r =
    nested (bytes_of 2 h.server_version) h.random (counted_text 1 (held h.session_id))
    (bytes_of 2 h.cipher_suite)
    (bytes_of 1 h.compression_method) (counted_text 2 (held h.extensions)) r

any_spelled : (h : ServerHello) (r : Bytes) → FitsServerHello h → InRangeServerHello h
    → Spells server_hello_any (nested_text h r)
    (hello_of h.server_version h.random (normal_id h.session_id)
    h.cipher_suite h.compression_method (Some (held h.extensions))) r []
unfolding server_hello_any
any_spelled h r fits range =
    let v = hello_of h.server_version h.random (normal_id h.session_id) h.cipher_suite
    h.compression_method
    (Some (held h.extensions)) in
    fields_spelled with_extensions h (counted_text 2 (held h.extensions) ++ r) v r fits range
    (joined (maybe (counted 2))
    (λ e. done (hello_of h.server_version h.random (normal_id h.session_id) h.cipher_suite
    h.compression_method e)) (counted_text 2 (held h.extensions) ++ r) v r (Some (held
    h.extensions)) r
    (counted_spelled 2 (held h.extensions) r (omega (arith, fits.extensions))) (refl, refl, refl))

-- SSL 3.0: the extensions are left
ssl30_spelled : (h : ServerHello) (r : Bytes) → FitsServerHello h → InRangeServerHello h
    → Spells server_hello_ssl30 (nested_text h r)
    (hello_of h.server_version h.random (normal_id h.session_id) h.cipher_suite
    h.compression_method None)
    (counted_text 2 (held h.extensions) ++ r) []
unfolding server_hello_ssl30
ssl30_spelled h r fits range =
    fields_spelled without h (counted_text 2 (held h.extensions) ++ r)
    (hello_of h.server_version h.random (normal_id h.session_id) h.cipher_suite
    h.compression_method None)
    (counted_text 2 (held h.extensions) ++ r) fits range
    (joined (done None)
    (λ e. done (hello_of h.server_version h.random (normal_id h.session_id) h.cipher_suite
    h.compression_method e)) (counted_text 2 (held h.extensions) ++ r)
    (hello_of h.server_version h.random (normal_id h.session_id) h.cipher_suite
    h.compression_method None)
    (counted_text 2 (held h.extensions) ++ r) None (counted_text 2 (held h.extensions) ++ r)
    (refl, refl, refl)
    (refl, refl, refl))

-- the version decides the form
abbrev by_version : ℕ → Layout ServerHello
by_version version =
    choose (version == 0x0300) server_hello_ssl30
    (choose (nat_le 0x0301 version && nat_le version 0x0303) server_hello_any (refuse Tag))

looked : (k x : ℕ) (m : Bytes) → x < 256 ^ k
    → Spells (look (number k)) (bytes_of k x ++ m) x (bytes_of k x ++ m) []
looked k x m h = (refl, refl, (m, [], (h, refl, refl)))

abbrev read_as : ServerHello → Option Bytes → ServerHello
read_as h e = hello_of h.server_version h.random (normal_id h.session_id) h.cipher_suite
    h.compression_method e

pub server_hello_spelled : (h : ServerHello) (r : Bytes) → FitsServerHello h → InRangeServerHello h
    → 0x0300 ≤ h.server_version → h.server_version ≤ 0x0303
    → (q : Bytes) × Spells server_hello (nested_text h r) (normal_server_hello h) q []
unfolding server_hello
server_hello_spelled h r fits range low high = go (eqb h.server_version 0x0300) refl
  where
    go : (t : Bool) → eqb h.server_version 0x0300 ≡ t
        → (q : Bytes) × Spells (chain (look (number 2)) by_version) (nested_text h r)
        (normal_server_hello h) q []
    go true e =
        let b = nested_text h r in
        let q = counted_text 2 (held h.extensions) ++ r in
        let is : normal_server_hello h ≡ read_as h None = ap
        (λ t. read_as h (if t then None else Some (held h.extensions))) e in (
          q,
          joined (look (number 2)) by_version b (normal_server_hello h) q h.server_version b
              (looked 2 h.server_version _ range.version)
              (picks_first (h.server_version == 0x0300) server_hello_ssl30
              (choose (nat_le 0x0301 h.server_version && nat_le h.server_version 0x0303)
              server_hello_any
              (refuse Tag)) b (normal_server_hello h) q [] e
              (subst (λ v. Spells server_hello_ssl30 b v q []) (sym is)
              (ssl30_spelled h r fits range))),
        )
    go false e =
        let b = nested_text h r in
        let is : normal_server_hello h ≡ read_as h (Some (held h.extensions)) = ap
        (λ t. read_as h (if t then None else Some (held h.extensions))) e in
        let other : h.server_version ≢ 0x0300 = eqb-false h.server_version 0x0300 e in
        let test : (nat_le 0x0301 h.server_version && nat_le h.server_version 0x0303) ≡ true =
        and_true
        (nat_le 0x0301 h.server_version) (nat_le h.server_version 0x0303)
        (le-leb 0x0301 h.server_version (omega arith)) (le-leb h.server_version 0x0303 high) in (
          r,
          joined (look (number 2)) by_version b (normal_server_hello h) r h.server_version b
              (looked 2 h.server_version _ range.version)
              (picks_second (h.server_version == 0x0300) server_hello_ssl30
              (choose (nat_le 0x0301 h.server_version && nat_le h.server_version 0x0303)
              server_hello_any
              (refuse Tag)) b (normal_server_hello h) r [] e
              (picks_first (nat_le 0x0301 h.server_version && nat_le h.server_version 0x0303)
              server_hello_any
              (refuse Tag) b (normal_server_hello h) r [] test
              (subst (λ v. Spells server_hello_any b v r []) (sym is)
              (any_spelled h r fits range)))),
        )

pub record WrittenServer (h : ServerHello) (b r : Bytes) : Type 0 where
  pub fits : FitsServerHello h
  pub range : InRangeServerHello h
  pub is : b ≡ server_hello_text h ++ r

any_whole : (b : Bytes) (h : ServerHello) (r : Bytes) → IsSome h.extensions
    → Spells server_hello_any b h r []
    → WrittenServer h b r
unfolding server_hello_any
any_whole b h r some s =
    let f = fields_whole with_extensions b h r s in
    let p = parts (maybe (counted 2))
    (λ e. done (hello_of f.version f.random f.id f.suite f.method e)) f.behind h r
    f.ending in
    let v = hello_of f.version f.random f.id f.suite f.method p.value in
    let is : h ≡ v = p.then.0 in
    let e = extensions_whole f.behind p.value p.middle
    (subst (λ h. IsSome h.extensions) is some) p.first in
    let behind : f.behind ≡ counted_text 2 (held p.value) ++ r =
    e.1 ∙ ap (λ x. counted_text 2 (held p.value) ++ x) p.then.1 in
    subst (λ h. WrittenServer h b r) (sym is) (record {
      fits = record {
        random = f.random_fits;
        session_id = f.id_fits;
        extensions =
            omega (arith, e.0);
      };
      range = record { version = f.version_fits; suite = f.suite_fits; method = f.method_fits };
      is = f.is ∙ ap (λ q. bytes_of 2 f.version ++ (f.random
          ++ (counted_text 1
          (held f.id) ++ (bytes_of 2 f.suite ++ (bytes_of 1 f.method ++ q))))) behind
          ∙ sym (text_nested v r);
    })

no_extensions : (h v : ServerHello) → h ≡ v → v.extensions ≡ None → IsSome h.extensions → ⊥
no_extensions h v e f some = let none : IsSome {T = Bytes} None =
    subst IsSome (ap (λ h. h.extensions) e ∙ f) some in cc

pub server_hello_whole : (b : Bytes) (h : ServerHello) (r : Bytes) → IsSome h.extensions
    → Spells server_hello b h r [] → WrittenServer h b r
unfolding server_hello server_hello_ssl30
server_hello_whole b h r some s =
    let p = parts (look (number 2)) by_version b h r s in
    subst (λ x. WrittenServer h x r) (sym p.first.0)
    (elim (picked (p.value == 0x0300) server_hello_ssl30
    (choose (nat_le 0x0301 p.value && nat_le p.value 0x0303) server_hello_any (refuse Tag))
    p.middle h r []
    p.then) [ First e f ↦ ssl30 p.middle f | Second e f ↦ later p.value p.middle f ])
  where
    ssl30 : (m : Bytes) → Spells server_hello_ssl30 m h r [] → WrittenServer h m r
    ssl30 m s =
        let f = fields_whole without m h r s in
        let p = parts (done None) (λ e. done (hello_of f.version f.random f.id f.suite f.method e))
        f.behind h r
        f.ending in
        absurd (no_extensions h (hello_of f.version f.random f.id f.suite f.method p.value) p.then.0
        p.first.0 some)

    later : (version : ℕ) (m : Bytes)
        → Spells (choose (nat_le 0x0301 version && nat_le version 0x0303)
        server_hello_any (refuse Tag)) m h r [] → WrittenServer h m r
    later version m s =
        elim (picked (nat_le 0x0301 version && nat_le version 0x0303) server_hello_any (refuse Tag)
        m h r [] s)
        [ First e f ↦ any_whole m h r some f | Second e f ↦ absurd f ]

-- draft 18
abbrev draft_of : ℕ → Bytes → ℕ → Option Bytes → ServerHelloDraft18
draft_of version random suite extensions =
    record { version = version; random = random; cipher_suite = suite; extensions = extensions }

abbrev draft_suite : ℕ → Bytes → ℕ → Layout ServerHelloDraft18
draft_suite version random suite =
    chain (maybe (counted 2)) (λ e. done (draft_of version random suite e))

abbrev draft_random : ℕ → Bytes → Layout ServerHelloDraft18
draft_random version random = chain (number 2) (draft_suite version random)

abbrev draft_version : ℕ → Layout ServerHelloDraft18
draft_version version = chain (block 32) (draft_random version)

nested4 : (a b c d r : Bytes) → a ++ b ++ c ++ d ++ r ≡ a ++ (b ++ (c ++ (d ++ r)))
nested4 a b c d r = simp append_assoc

abbrev pub draft_nested : ServerHelloDraft18 → Bytes → Bytes
draft_nested h r =
    bytes_of 2 h.version
    ++ (h.random ++ (bytes_of 2 h.cipher_suite ++ (counted_text 2 (held h.extensions) ++ r)))

draft_text : (h : ServerHelloDraft18) (r : Bytes)
    → server_hello_draft18_text h ++ r ≡ draft_nested h r
unfolding server_hello_draft18_text
draft_text h r =
    nested4 (bytes_of 2 h.version) h.random (bytes_of 2 h.cipher_suite)
    (counted_text 2 (held h.extensions)) r

pub draft18_spelled : (h : ServerHelloDraft18) (r : Bytes) → FitsServerHelloDraft18 h
    → InRangeServerHelloDraft18 h
    → Spells server_hello_draft18 (draft_nested h r) (normal_server_hello_draft18 h) r []
unfolding server_hello_draft18
draft18_spelled h r fits range =
    let v = normal_server_hello_draft18 h in
    let m1 = counted_text 2 (held h.extensions) ++ r in
    let m2 = bytes_of 2 h.cipher_suite ++ m1 in
    joined (number 2) draft_version (draft_nested h r) v r h.version (h.random ++ m2)
    (number_spelled 2 h.version (h.random ++ m2) range.version)
    (joined (block 32) (draft_random h.version) (h.random ++ m2) v r h.random m2
    (fits.random, refl, refl)
    (joined (number 2) (draft_suite h.version h.random) m2 v r h.cipher_suite m1
    (number_spelled 2 h.cipher_suite m1 range.suite)
    (joined (maybe (counted 2)) (λ e. done (draft_of h.version h.random h.cipher_suite e)) m1 v r
    (Some (held h.extensions)) r
    (counted_spelled 2 (held h.extensions) r (omega (arith, fits.extensions)))
    (refl, refl, refl))))

pub record WrittenDraft (h : ServerHelloDraft18) (b r : Bytes) : Type 0 where
  pub fits : FitsServerHelloDraft18 h
  pub range : InRangeServerHelloDraft18 h
  pub is : b ≡ server_hello_draft18_text h ++ r

pub draft18_whole : (b : Bytes) (h : ServerHelloDraft18) (r : Bytes) → IsSome h.extensions
    → Spells server_hello_draft18 b h r [] → WrittenDraft h b r
unfolding server_hello_draft18
draft18_whole b h r some s =
    let p1 = parts (number 2) draft_version b h r s in
    let p2 = parts (block 32) (draft_random p1.value) p1.middle h r p1.then in
    let p3 = parts (number 2) (draft_suite p1.value p2.value) p2.middle h r p2.then in
    let p4 = parts (maybe (counted 2)) (λ e. done (draft_of p1.value p2.value p3.value e)) p3.middle
    h r p3.then in
    let v = draft_of p1.value p2.value p3.value p4.value in
    let is : h ≡ v = p4.then.0 in
    let e = extensions_whole p3.middle p4.value p4.middle (subst (λ h. IsSome h.extensions) is some)
    p4.first in
    let all : b ≡ draft_nested v r = p1.first.1 ∙ ap (λ x. bytes_of 2 p1.value ++ x)
    (p2.first.1 ∙ ap (λ x. p2.value ++ x) (p3.first.1 ∙ ap (λ x. bytes_of 2 p3.value ++ x)
    (e.1 ∙ ap (λ x. counted_text 2 (held p4.value) ++ x) p4.then.1))) in
    subst (λ h. WrittenDraft h b r) (sym is) (record {
      fits = record { random = p2.first.0; extensions = omega (arith, e.0) };
      range = record { version = p1.first.0; suite = p3.first.0 };
      is = all ∙ sym (draft_text v r);
    })

-- complete bodies
pub server_reads : (h : ServerHello) → FitsServerHello h → InRangeServerHello h
    → 0x0300 ≤ h.server_version
    → h.server_version ≤ 0x0303
    → (q : Bytes) × Spells server_hello (server_hello_text h) (normal_server_hello h) q []
server_reads h fits range low high =
    let s = server_hello_spelled h [] fits range low high in (
      s.0,
      subst (λ b. Spells server_hello b (normal_server_hello h) s.0 [])
          (sym (text_nested h []) ∙ append-nil (server_hello_text h)) s.1,
    )

pub draft_reads : (h : ServerHelloDraft18) → FitsServerHelloDraft18 h → InRangeServerHelloDraft18 h
    → Spells server_hello_draft18 (server_hello_draft18_text h)
    (normal_server_hello_draft18 h) [] []
draft_reads h fits range =
    subst (λ b. Spells server_hello_draft18 b (normal_server_hello_draft18 h) [] [])
    (sym (draft_text h []) ∙ append-nil (server_hello_draft18_text h))
    (draft18_spelled h [] fits range)

-- the version is at the start of either encoding
pub server_looked : (h : ServerHello) → h.server_version < 256 ^ 2
    → Spells (look (number 2)) (server_hello_text h) h.server_version (server_hello_text h) []
server_looked h small =
    subst (λ b. Spells (look (number 2)) b h.server_version b [])
    (sym (text_nested h []) ∙ append-nil (server_hello_text h)) (looked 2 h.server_version _ small)

pub draft_looked : (h : ServerHelloDraft18) → h.version < 256 ^ 2
    → Spells (look (number 2)) (server_hello_draft18_text h) h.version
    (server_hello_draft18_text h) []
draft_looked h small =
    subst (λ b. Spells (look (number 2)) b h.version b [])
    (sym (draft_text h []) ∙ append-nil (server_hello_draft18_text h)) (looked 2 h.version _ small)
