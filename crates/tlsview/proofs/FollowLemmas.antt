-- The symbols of messages, wherever these lie in memory.
use Rattle.std.proofs.Common.{◌≡◌, ℕ, ◌++◌, Ok, Bool, false, List, [], ◌∷◌, map, refl, sym, ◌∙◌, ap, subst}
use Rattle.std.specs.List.{list_any}
use Rattle.std.specs.Prelude.{◌||◌, flat_map}
use Rattle.layouts.specs.Bytes.{Bytes}
use Rattle.layouts.specs.Reading.{reading}
use Rattle.tls_records.specs.Record.{RawRecord, record_content}
use Rattle.tls_hs.specs.Message.{view_message}
use Rattle.tls_hs.specs.declared.message.TlsMessage.{TlsMessage}
use Rattle.tls_states.specs.Symbols as symbols
use Rattle.tls_states.specs.Symbols.{symbol_of_viewed}
use Rattle.tls_states.specs.Steps.{run}
use Rattle.tls_states.specs.declared.state.TlsState.{TlsState}
use Rattle.tlsview.specs.Transition.{goes_to_server, state_after, changes_cipher}
use Rattle.tlsview.specs.Out.{Messages, messages_of, message_line, content_of}
use Rattle.tlsview.specs.Shown.{IsShown}
use Rattle.tlsview.specs.declared.direction.LineDirection.{LineDirection}
use Rattle.tlsview.specs.declared.records.NextRecord.TheVariants as next

same_symbols : (d : LineDirection) (ms : List TlsMessage)
    → map (λ m. symbol_of_viewed m (goes_to_server d)) (map view_message ms)
    ≡ map (λ m. symbols.symbol_of m (goes_to_server d)) ms
same_symbols d [] = refl
same_symbols d (m ∷ ms) = ap (λ w. symbols.symbol_of m (goes_to_server d) ∷ w) (same_symbols d ms)

pub followed : (d : LineDirection) (q : TlsState) (ms : List TlsMessage)
    → run q (map (λ m. symbols.symbol_of m (goes_to_server d)) ms) ≡ state_after d q
    (map view_message ms)
followed d q ms = ap (run q) (sym (same_symbols d ms))

pub changed : (ms : List TlsMessage) → list_any (λ m. changes_cipher (view_message m)) ms
    ≡ list_any changes_cipher (map view_message ms)
changed [] = refl
changed (m ∷ ms) = ap (λ t. changes_cipher (view_message m) || t) (changed ms)

-- The messages of a record that isn't encrypted, printed and followed.
pub messages_shown : (d : LineDirection) (text text' : List ℕ) (q q' : TlsState)
    (enc enc' to_server : Bool) (v : RawRecord)
    (r : Bytes) (ms s1 s2 s3 : List TlsMessage)
    → enc ≡ false → reading (record_content v.header) v.fragment ≡ Ok (map view_message ms, r)
    → to_server ≡ goes_to_server d → s1 ≡ ms → s2 ≡ ms → s3 ≡ ms
    → text' ≡ text ++ flat_map (message_line d) (map view_message s1)
    → q' ≡ run q (map (λ m. symbols.symbol_of m to_server) s2)
    → enc' ≡ list_any (λ m. changes_cipher (view_message m)) s3
    → IsShown d text q text' q' enc (content_of enc v) (next.Record enc')
messages_shown d text text' q q' enc enc' to_server v r ms s1 s2 s3 plain read way e1 e2 e3 printed
    follows changes =
    let holds : content_of enc v ≡ Ok (Messages (map view_message ms)) =
    ap (λ t. content_of t v) plain ∙ ap messages_of read in
    let text_is : text' ≡ text ++ flat_map (message_line d) (map view_message ms) =
    printed ∙ ap (λ s. text ++ flat_map (message_line d) (map view_message s)) e1 in
    let state_is : q' ≡ state_after d q (map view_message ms)
    = follows ∙ ap (λ t. run q (map (λ m. symbols.symbol_of m t) s2)) way
    ∙ ap (λ s. run q (map (λ m. symbols.symbol_of m (goes_to_server d)) s)) e2 ∙ followed d q ms in
    let cipher_is : enc' ≡ (enc || list_any changes_cipher (map view_message ms))
    = changes ∙ ap (λ s. list_any (λ m. changes_cipher (view_message m)) s) e3 ∙ changed ms
    ∙ ap (λ t. t || list_any changes_cipher (map view_message ms)) (sym plain) in
    subst (λ k. IsShown d text q text' q' enc k (next.Record enc')) (sym holds)
    (text_is, state_is, cipher_is)
