-- Records of TLS with further bytes after them.
use Rattle.std.proofs.Common.{ℕ, List, [], ◌∷◌, Bool, true, false}
use Rattle.std.specs.Prelude.{◌==◌}
use Rattle.layouts.specs.Bytes.{Bytes, AreBytes}
use Rattle.layouts.specs.Layout.{done, refuse, complete, chain, choose, list1, rest}
use Rattle.layouts.specs.Stable.{NeverLacks, CountsMissing, Decides, CountsDown}
use Rattle.layouts.specs.declared.result.ErrorKind.TheVariants.{Switch}
use Rattle.layouts.proofs.LackingLemmas.{never-done, never-refuse, never-complete, never-chain, never-rest}
use Rattle.layouts.proofs.LackingLemmas.{never-list1}
use Rattle.layouts.proofs.StableLemmas.{decides, counts_down, counting_is_stable}
use Rattle.tls_hs.specs.Message.{Message, ApplicationData, change_cipher_spec, alert, handshake, application_data}
use Rattle.tls_hs.specs.Message.{heartbeat}
use Rattle.raw_records.specs.RawRecord.{RecordHeader, record_header}
use Rattle.tls_records.specs.Record.{Plaintext, record_content, plaintext}
use Rattle.raw_records.proofs.FramedLemmas.{framed_counts}
use Rattle.raw_records.proofs.FurtherLemmas.{raw_of, header_counts}

pub application_data_never_lacks : NeverLacks application_data
unfolding application_data
application_data_never_lacks =
    never-chain rest (λ b. done (ApplicationData b)) never-rest
    (λ b. never-done (ApplicationData b))

-- No bytes are missing from a fragment.
picked_never_lacks : (a b c d e : Bool) (length : ℕ) → NeverLacks (
    choose a (list1 change_cipher_spec) (
    choose b (list1 alert) (
    choose c (list1 handshake) (
    choose d (chain application_data (λ m. done (m ∷ []))) (
    choose e (complete (heartbeat length)) (
    refuse Switch))))))
picked_never_lacks true b c d e length = never-list1 change_cipher_spec
picked_never_lacks false true c d e length = never-list1 alert
picked_never_lacks false false true d e length = never-list1 handshake
picked_never_lacks false false false true e length =
    never-chain application_data (λ m. done (m ∷ [])) application_data_never_lacks
    (λ m. never-done (m ∷ []))
picked_never_lacks false false false false true length = never-complete (heartbeat length)
picked_never_lacks false false false false false length = never-refuse (List Message) Switch

pub content_never_lacks : (h : RecordHeader) → NeverLacks (record_content h)
unfolding record_content
content_never_lacks h =
    picked_never_lacks (h.content_type == 20) (h.content_type == 21) (h.content_type == 22)
    (h.content_type == 23)
    (h.content_type == 24) h.length

abbrev pub whole_of : RecordHeader → List Message → Plaintext
whole_of h m = record { header = h; messages = m }

plaintext_counts : CountsMissing plaintext
unfolding plaintext
plaintext_counts =
    framed_counts record_header (λ h. h.length) record_content whole_of raw_of content_never_lacks
    header_counts

pub plaintext_decides : (b s : Bytes) → AreBytes b → AreBytes s → Decides plaintext b s
plaintext_decides b s are more =
    decides plaintext (counting_is_stable plaintext plaintext_counts) b s are more

pub plaintext_counts_down : (b s : Bytes) → AreBytes b → AreBytes s → CountsDown plaintext b s
plaintext_counts_down b s are more = counts_down plaintext plaintext_counts b s are more
