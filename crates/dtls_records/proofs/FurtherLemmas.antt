-- Records of DTLS with further bytes after them.
use Rattle.std.proofs.Common.{Bool, true, false, List}
use Rattle.std.specs.Prelude.{◌==◌}
use Rattle.layouts.specs.Bytes.{Bytes, AreBytes}
use Rattle.layouts.specs.Layout.{refuse, choose, list1}
use Rattle.layouts.specs.Stable.{NeverLacks, CountsMissing, Decides, CountsDown}
use Rattle.layouts.specs.declared.result.ErrorKind.TheVariants.{Switch}
use Rattle.layouts.proofs.LackingLemmas.{never-refuse, never-list1}
use Rattle.layouts.proofs.StableLemmas.{decides, counts_down, counting_is_stable}
use Rattle.raw_records.specs.RawDtlsRecord.{RecordHeader, record_header}
use Rattle.raw_records.proofs.FramedLemmas.{framed_counts}
use Rattle.raw_records.proofs.DtlsFurtherLemmas.{raw_of, header_counts}
use Rattle.dtls_records.specs.DtlsRecord.{Message, Plaintext, change_cipher_spec, alert, handshake}
use Rattle.dtls_records.specs.DtlsRecord.{record_content, plaintext}

-- No bytes are missing from a fragment.
picked_never_lacks : (a b c : Bool) → NeverLacks (
    choose a (list1 change_cipher_spec) (
    choose b (list1 alert) (
    choose c (list1 handshake) (
    refuse Switch))))
picked_never_lacks true b c = never-list1 change_cipher_spec
picked_never_lacks false true c = never-list1 alert
picked_never_lacks false false true = never-list1 handshake
picked_never_lacks false false false = never-refuse (List Message) Switch

pub content_never_lacks : (h : RecordHeader) → NeverLacks (record_content h)
unfolding record_content
content_never_lacks h =
    picked_never_lacks (h.content_type == 20) (h.content_type == 21) (h.content_type == 22)

abbrev pub whole_of : RecordHeader → List Message → Plaintext
whole_of h m = record { header = h; messages = m }

plaintext_counts : CountsMissing plaintext
unfolding plaintext
plaintext_counts =
    framed_counts record_header (λ h. h.length) record_content whole_of raw_of content_never_lacks
    header_counts

pub plaintext_decides : (b s : Bytes) → AreBytes b → AreBytes s → Decides plaintext b s
plaintext_decides b s are more =
    decides plaintext (counting_is_stable plaintext plaintext_counts) b s are more

pub plaintext_counts_down : (b s : Bytes) → AreBytes b → AreBytes s → CountsDown plaintext b s
plaintext_counts_down b s are more = counts_down plaintext plaintext_counts b s are more
