-- Which pending segments count as taken once their connection is over.
use Rattle.std.specs.Prelude.{ℕ, ◌==◌, Bool, true, false, ◌&&◌, ◌||◌, not, if◌then◌else◌, Option, Some, None, List, [], ◌∷◌}
use Rattle.std.specs.Option.{option_map}
use Rattle.connections.specs.Connection.{hosts_from, left_if, lacks_of, outcome_of, side_of}
use Rattle.connections.specs.FiveTuple.{is_end}
use Rattle.connections.specs.Numbers.{is_behind}
use Rattle.connections.specs.Segment.{begins_in}
use Rattle.connections.specs.Waiting.{cut_at_known, end_of_kept, first_of_kept, kept_at, place_from, takes_numbers_in, without_at, Kept}
use Rattle.connections.specs.declared.connection.Connection.{Connection}
use Rattle.connections.specs.declared.ending.SentNumbers.{SentNumbers}
use Rattle.connections.specs.declared.pending.PendingOutcome.{PendingOutcome}
use Rattle.connections.specs.declared.receiver.DropReason.{DropReason}
use Rattle.connections.specs.declared.receiver.DropReason.TheVariants.{Acknowledgment, Checksum, Clock, Fin, NoAck, Reset, Signature, Syn, Window}

-- A packet that the capture lacks, or a network card that writes checksums behind it, explains the
-- reason. Neither explains a signature or an old timestamp.
abbrev pub is_explained : Option DropReason → Bool
is_explained None = false
is_explained (Some Acknowledgment) = true
is_explained (Some Checksum) = true
is_explained (Some NoAck) = false
is_explained (Some Window) = true
is_explained (Some Clock) = false
is_explained (Some Signature) = false
is_explained (Some Syn) = false
is_explained (Some Reset) = false
is_explained (Some Fin) = false

-- A pending segment of the sender of k ends at a number.
abbrev pub ends_at : Kept → ℕ → Kept → Bool
ends_at k n other = is_end other.header.source k.header.source && end_of_kept other == n

abbrev pub is_end_of_any : Kept → ℕ → List Kept → Bool
is_end_of_any k n [] = false
is_end_of_any k n (other ∷ ks) = if ends_at k n other then true else is_end_of_any k n ks

-- A pending segment of its receiver acknowledges all of k, and exactly up to where one of these
-- ends. Its receiver isn't known to have taken that segment either: it claims that k was sent.
abbrev pub claims : List Kept → Kept → Kept → Bool
claims ks k other =
    is_end other.header.source k.header.destination
    && (not (begins_in other.header)
    && (not (is_behind (end_of_kept k) other.header.acknowledgment)
    && is_end_of_any k other.header.acknowledgment ks))

abbrev pub is_claimed_by_any : List Kept → Kept → List Kept → Bool
is_claimed_by_any ks k [] = false
is_claimed_by_any ks k (other ∷ others) =
    if claims ks k other then true else is_claimed_by_any ks k others

-- What k acknowledges was sent: it is known to be, or a pending segment of its receiver begins or
-- ends there.
abbrev pub sent_to : SentNumbers → Kept → Option ℕ
sent_to sent k =
    if is_end k.header.source sent.originator then sent.by_responder else sent.by_originator

abbrev pub is_up_to : Option ℕ → ℕ → Bool
is_up_to None n = false
is_up_to (Some next) n = not (is_behind n next)

abbrev pub meets : Kept → Kept → Bool
meets k other =
    is_end other.header.source k.header.destination
    && (first_of_kept other == k.header.acknowledgment
    || end_of_kept other == k.header.acknowledgment)

abbrev pub meets_any : Kept → List Kept → Bool
meets_any k [] = false
meets_any k (other ∷ ks) = if meets k other then true else meets_any k ks

abbrev pub goes_on : SentNumbers → List Kept → Kept → Bool
goes_on sent ks k = is_up_to (sent_to sent k) k.header.acknowledgment || meets_any k ks

-- Once the connection is over, a claim decides where the reason is explained.
abbrev pub is_taken_at_end : SentNumbers → List Kept → Kept → Bool
is_taken_at_end sent ks k =
    takes_numbers_in k
    && (not (begins_in k.header)
    && (is_explained k.reason && (goes_on sent ks k && is_claimed_by_any ks k ks)))

abbrev pub place_at_end : SentNumbers → List Kept → Option ℕ
place_at_end sent ks = place_from (is_taken_at_end sent ks) 0 ks

module _ {T : Type 0} where
  -- The numbers behind all that both ends are known to have sent.
  abbrev pub sent_in : Connection T → SentNumbers
  sent_in c = record {
    originator = c.originator;
    by_originator = c.originator_host.next;
    by_responder = c.responder_host.next;
  }

  -- The first such segment is removed, and truncated at its sender's FIN.
  abbrev pub without_first_at_end : Connection T → Connection T
  without_first_at_end c =
      record c { waiting = without_at (place_at_end (sent_in c) c.waiting) c.waiting }

  abbrev pub cut_at_fin : Connection T → Kept → Kept
  cut_at_fin c k = cut_at_known (hosts_from (side_of c k.header.source) c).0.fin k

  abbrev pub first_at_end : Connection T → Option Kept
  first_at_end c = option_map (cut_at_fin (without_first_at_end c))
      (kept_at (place_at_end (sent_in c) c.waiting) c.waiting)

  -- If bytes of it are missing, it is taken. If none are, it counts as dropped.
  abbrev pub outcome_at_end : Connection T → Option PendingOutcome
  outcome_at_end c = outcome_of (first_at_end c) (without_first_at_end c)

  abbrev pub left_with : Option Kept → Connection T → Connection T
  left_with None c = c
  left_with (Some k) c = left_if (lacks_of k c) k c

  abbrev pub left_at_end : Connection T → Connection T
  left_at_end c = left_with (first_at_end c) (without_first_at_end c)
