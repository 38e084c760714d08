-- Where a conversation ends.
use Rattle.std.proofs.Common.{
  ◌≡◌,
  ◌↔◌,
  ◌⊎◌,
  inl,
  inr,
  [],
  ◌∷◌,
  ◌++◌,
  Bool,
  true,
  false,
  refl,
  sym,
  ◌∙◌,
  ap,
  subst,
  append_assoc,
}
use Rattle.tls_words.proofs.PatternLemmas.{has_empty, has_word}
use Rattle.tls_words.proofs.MachineLemmas.{run_on, front_is_after, word_to_after, word_from_after}
use Rattle.tls_states.specs.Symbols.{Symbol, symbol, Word}
use Rattle.tls_states.specs.Grammar.{handshake, clean}
use Rattle.tls_states.specs.Steps.{step, or_invalid, next, run}
use Rattle.tls_states.specs.Conversations.{HasHandshake, MayBecomeHandshake, IsBrokenOff}
use Rattle.tls_states.specs.declared.symbol.Kind.TheVariants.{Fatal}
use Rattle.tls_states.specs.declared.symbol.Direction.{Direction}
use Rattle.tls_states.specs.declared.state.TlsState.{TlsState}
use Rattle.tls_states.specs.declared.state.TlsState.TheVariants as state
use Rattle.tls_states.proofs.SymbolLemmas.{same_symbol}
use Rattle.tls_states.proofs.FollowLemmas.{
  waits,
  fits,
  Fits,
  is_noise,
  turn,
  clean_is,
  next_fits,
  next_waits,
  run_fits,
  finished_by_fatal,
}

last_symbol : (w : Word) → (w ≡ []) ⊎ ((u : Word) × (l : Symbol) × (w ≡ u ++ l ∷ []))
last_symbol [] = inl refl
last_symbol (x ∷ w) = elim (last_symbol w) [
  | inl e ↦ inr ([], x, ap (λ y. x ∷ y) e)
  | inr h ↦ inr (x ∷ h.0, h.1, ap (λ y. x ∷ y) h.2)
]

-- States in which a handshake can still be completed, or is.
abbrev is_alive : TlsState → Bool
is_alive state.Alert = false
is_alive state.Finished = false
is_alive state.Invalid = false
is_alive _ = true

abbrev IsAlive : TlsState → Type 0
IsAlive q = is_alive q ≡ true

alive_at : (q : TlsState) → has_word (waits q) ≡ is_alive q
alive_at = elim [ state.None ↦ refl | _ ↦ refl ]

only_encrypted : (q : TlsState) → has_empty (waits q) ≡ true → q ≡ state.SessionEncrypted
only_encrypted = elim [ state.SessionEncrypted ↦ λ h. refl | _ ↦ λ h. cc ]

alive_or_not : (q : TlsState) → IsAlive q ⊎ (q ≡ state.Alert) ⊎ (q ≡ state.Finished)
    ⊎ (q ≡ state.Invalid)
alive_or_not = elim [
  | state.Alert ↦ inr (inl refl)
  | state.Finished ↦ inr (inr (inl refl))
  | state.Invalid ↦ inr (inr (inr refl))
  | _ ↦ inl refl
]

fatal_finishes : (q : TlsState) (d : Direction) → IsAlive q
    → ¬ (or_invalid (step q (symbol Fatal d)) ≡ state.Invalid)
fatal_finishes = elim [ state.None ↦ λ d h e. cc | _ ↦ λ d h e. cc ]

module _ (w : Word) where
  no_alert : ¬ (run state.None w ≡ state.Alert)
  no_alert e = let k : (after : Bool) × Fits (run state.None w) after =
      run_fits state.None false w refl in let h : fits state.Alert k.0 ≡ true =
      subst (λ q. fits q k.0 ≡ true) e k.1 in cc

  encrypted_is : (has_empty (waits (run state.None w)) ≡ true) ↔ HasHandshake w
  encrypted_is = front_is_after is_noise turn same_symbol next waits Fits next_fits next_waits
      state.None false refl
      clean clean_is handshake refl w

  encrypted_from : HasHandshake w → run state.None w ≡ state.SessionEncrypted
  encrypted_from h = only_encrypted (run state.None w) (encrypted_is.1 h)

  encrypted_to : run state.None w ≡ state.SessionEncrypted → HasHandshake w
  encrypted_to e = encrypted_is.0 (ap (λ q. has_empty (waits q)) e)

  alive_to : IsAlive (run state.None w) → HasHandshake w ⊎ MayBecomeHandshake w
  alive_to t = word_to_after is_noise turn same_symbol next waits Fits next_fits next_waits
      state.None false refl clean
      clean_is handshake refl w (alive_at (run state.None w) ∙ t)

  alive_from : MayBecomeHandshake w → IsAlive (run state.None w)
  alive_from h = sym (alive_at (run state.None w))
      ∙ word_from_after is_noise turn same_symbol next waits Fits next_fits next_waits state.None
      false refl clean
      clean_is handshake refl w h

-- The step of the last symbol.
run_last : (u : Word) (l : Symbol) (w : Word) → w ≡ u ++ l ∷ []
    → run state.None w ≡ or_invalid (step (run state.None u) l)
run_last u l w e = ap (run state.None) e ∙ run_on next state.None u (l ∷ [])

invalid_to : (w : Word) → run state.None w ≡ state.Invalid
    → ¬ HasHandshake w × ¬ MayBecomeHandshake w × ¬ IsBrokenOff w
invalid_to w e = (
  λ h. let k : run state.None w ≡ state.SessionEncrypted = encrypted_from w h in cc,
  λ h. let k : IsAlive state.Invalid = subst IsAlive e (alive_from w h) in cc,
  λ h. fatal_finishes (run state.None h.0) h.1 (alive_from h.0 h.3)
      (sym (run_last h.0 (symbol Fatal h.1) w h.2) ∙ e),
)

-- A run that ends in Finished was broken off.
finished_to : (w : Word) → run state.None w ≡ state.Finished → HasHandshake w ⊎ IsBrokenOff w
finished_to w e = elim (last_symbol w) [
  | inl n ↦ let k : state.None ≡ state.Finished =
      subst (λ x. run state.None x ≡ state.Finished) n e in cc
  | inr x ↦ by_last x.0 x.1 x.2 (sym (run_last x.0 x.1 w x.2) ∙ e)
]
  where
    by_last : (u : Word) (l : Symbol) → w ≡ u ++ l ∷ []
        → or_invalid (step (run state.None u) l) ≡ state.Finished
        → HasHandshake w ⊎ IsBrokenOff w
    by_last u l f s = elim (alive_or_not (run state.None u)) [
      | inl t ↦ elim (alive_to u t) [
        | inl h ↦ inl
            (h.0, h.1 ++ l ∷ [], f ∙ ap (λ x. x ++ l ∷ []) h.2 ∙ append_assoc h.0 h.1 (l ∷ []), h.3)
        | inr h ↦ let k : (after : Bool) × (fits (run state.None u) after ≡ true) =
            run_fits state.None false u refl in let d : (d : Direction) × (l ≡ symbol Fatal d) =
            finished_by_fatal (run state.None u) k.0 l k.1 s in
            inr (u, d.0, f ∙ ap (λ x. u ++ x ∷ []) d.1, h)
      ]
      | inr (inl a) ↦ absurd (no_alert u a)
      | inr (inr (inl a)) ↦ let k : state.Invalid ≡ state.Finished =
          subst (λ q. or_invalid (step q l) ≡ state.Finished) a s in cc
      | inr (inr (inr a)) ↦ let k : state.Invalid ≡ state.Finished =
          subst (λ q. or_invalid (step q l) ≡ state.Finished) a s in cc
    ]

invalid_from : (w : Word) → ¬ HasHandshake w × ¬ MayBecomeHandshake w × ¬ IsBrokenOff w
    → run state.None w ≡ state.Invalid
invalid_from w h = elim (alive_or_not (run state.None w)) [
  | inl t ↦ absurd (elim (alive_to w t) [ inl x ↦ h.0 x | inr x ↦ h.1 x ])
  | inr (inl e) ↦ absurd (no_alert w e)
  | inr (inr (inl e)) ↦ absurd (elim (finished_to w e) [ inl x ↦ h.0 x | inr x ↦ h.2 x ])
  | inr (inr (inr e)) ↦ e
]

-- Where a run from None ends.
module _ (w : Word) (start end : TlsState) (ends : end ≡ run start w)
    (starts : start ≡ state.None) where
  from_none : end ≡ run state.None w
  from_none = ends ∙ ap (λ q. run q w) starts

  pub encrypted_where : (end ≡ state.SessionEncrypted) ↔ HasHandshake w
  encrypted_where = subst (λ q. (q ≡ state.SessionEncrypted) ↔ HasHandshake w) (sym from_none)
      (encrypted_to w, encrypted_from w)

  pub invalid_where : (end ≡ state.Invalid)
      ↔ (¬ HasHandshake w × ¬ MayBecomeHandshake w × ¬ IsBrokenOff w)
  invalid_where =
      subst (λ q. (q ≡ state.Invalid)
      ↔ (¬ HasHandshake w × ¬ MayBecomeHandshake w × ¬ IsBrokenOff w))
      (sym from_none) (invalid_to w, invalid_from w)
