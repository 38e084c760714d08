-- One direction of a connection.
use Rattle.std.specs.Prelude.{◌≡◌, ℕ, ◌+◌, ◌-◌, ◌%◌, ◌^◌, ◌==◌, ⊤, Bool, true, false, not, nat_lt, ◌&&◌, ◌||◌, if◌then◌else◌, Option, Some, None, [], ◌∷◌, length, max, min, take, drop}
use Rattle.segments.specs.Cells.{Bytes, Held, differing_in, gap, known_behind, run, with_segment, without_front, IsTooMuch}
use Rattle.connections.specs.Numbers.{advance, ahead_of, is_behind}
use Rattle.connections.specs.Segment.{breaks, ends, first_of, behind_of, urgent_of}
use Rattle.connections.specs.Traffic.{plus}
use Rattle.connections.specs.declared.segment.Segment.{Segment}
use Rattle.connections.specs.declared.stream.TheConstants.{HELD_LIMIT, KEPT_LIMIT}
use Rattle.connections.specs.declared.stream.Front.{Front}
use Rattle.connections.specs.declared.stream.Stream.{Stream}
use Rattle.connections.specs.declared.stream.Reading.{Reading}
use Rattle.connections.specs.declared.stream.Reading.TheVariants.{Unbegun, Open, Over}

-- An empty stream, whose first byte has this number.
abbrev pub empty_from : ℕ → ℕ → Held
empty_from limit first = record { first = first; limit = limit; taken = 0; cells = [] }

-- A stream begins with its first segment.
abbrev pub begun : ℕ → ℕ → Reading → Reading
begun limit first Unbegun = Open (empty_from limit first)
begun limit first (Open h) = Open h
begun limit first Over = Over

-- A segment ends too far behind the first missing byte.
abbrev pub IsLeftOut : ℕ → Bytes → Reading → Type 0
IsLeftOut seq b (Open h) = IsTooMuch seq b h
IsLeftOut seq b Unbegun = ⊥
IsLeftOut seq b Over = ⊥

-- Any other segment's bytes are added where there are none.
abbrev pub put : ℕ → Bytes → Reading → Reading
put seq b (Open h) = Open (with_segment seq b h)
put seq b Unbegun = Unbegun
put seq b Over = Over

-- The first bytes are freed, or all if there are fewer.
abbrev pub behind_front : ℕ → Reading → Reading
behind_front n (Open h) = Open (without_front (length (take n (run h.cells))) h)
behind_front n Unbegun = Unbegun
behind_front n Over = Over

-- An empty stream.
abbrev pub silent_stream : Stream
silent_stream = record {
  reading = Unbegun;
  next = 0;
  received = 0;
  urgent = None;
  last = 0;
  fin = None;
  is_broken = false;
  length = 0;
  repeated = 0;
  disagreeing = 0;
  passing = None;
  has_skipped = false;
}

-- The number of the first kept byte after more are freed.
abbrev pub next_behind : ℕ → Reading → ℕ → ℕ
next_behind n (Open h) next = (next + length (take n (run h.cells))) % 2 ^ 32
next_behind n Unbegun next = next
next_behind n Over next = next

-- The number of the first unread byte.
abbrev pub unread_from : Stream → ℕ
unread_from t = (t.next + t.received % 2 ^ 32) % 2 ^ 32

-- Bytes from this number on, up to the urgent one, which isn't part of the stream (RFC 9293,
-- section 3.8.5; RFC 6093, section 3).
abbrev pub up_to_urgent : Option ℕ → ℕ → Bytes → Bytes
up_to_urgent None n b = b
up_to_urgent (Some urgent) n b = take (ahead_of urgent n) b

-- The unread bytes, in order. Kept bytes that were read come before them.
abbrev pub next_bytes : Stream → Reading → Bytes
next_bytes t (Open h) = up_to_urgent t.urgent (unread_from t) (drop t.received (run h.cells))
next_bytes t Unbegun = []
next_bytes t Over = []

-- How many bytes were read after n more, or after all if there are fewer.
abbrev pub handed_on : ℕ → Stream → ℕ
handed_on n t = plus t.received (length (take n (next_bytes t t.reading)))

abbrev pub handing_on : ℕ → Stream → Stream
handing_on n t = record t { received = handed_on n t }

-- The urgent byte came, and none behind it was read.
abbrev pub is_urgent_there : Option ℕ → ℕ → ℕ → Bool
is_urgent_there None n reached = false
is_urgent_there (Some urgent) n reached = is_behind reached urgent && not (is_behind n urgent)

abbrev pub is_cut_short : Stream → Reading → Bool
is_cut_short t (Open h) =
    is_urgent_there t.urgent (unread_from t) ((t.next + length (run h.cells)) % 2 ^ 32)
is_cut_short t Unbegun = false
is_cut_short t Over = false

-- The urgent byte comes next and is skipped.
abbrev pub is_number : Option ℕ → ℕ → Bool
is_number None n = false
is_number (Some m) n = m == n

abbrev pub has_urgent_next : Stream → Bool
has_urgent_next t = is_number t.urgent (unread_from t) && is_cut_short t t.reading

abbrev pub passing_urgent : Stream → Stream
passing_urgent t = if has_urgent_next t then
    record t { received = plus t.received 1; urgent = None } else t

-- Read bytes are freed: those before the acknowledged number, and those with enough read bytes
-- behind them.
abbrev pub acknowledged_from : ℕ → Option ℕ → ℕ
acknowledged_from next None = 0
acknowledged_from next (Some n) = advance n next

abbrev pub forgotten : Option ℕ → Stream → ℕ
forgotten acknowledged t =
    min t.received (max (acknowledged_from t.next acknowledged) (t.received - KEPT_LIMIT))

abbrev pub kept_of : ℕ → Reading → ℕ → ℕ
kept_of n (Open h) received = received - length (take n (run h.cells))
kept_of n Unbegun received = received
kept_of n Over received = received

abbrev pub forgetting : Option ℕ → Stream → Stream
forgetting acknowledged t = record t {
  reading = behind_front (forgotten acknowledged t) t.reading;
  next = next_behind (forgotten acknowledged t) t.reading t.next;
  received = kept_of (forgotten acknowledged t) t.reading t.received;
}

-- A number of the stream, which begins with its first segment.
abbrev pub number_begun : Reading → ℕ → ℕ → ℕ
number_begun Unbegun first n = first
number_begun (Open h) first n = n
number_begun Over first n = n

-- How many bytes are stored, in order and out of order.
abbrev pub came : Held → ℕ
came h = plus (length (run h.cells)) (known_behind h.cells)

-- At how many positions bytes differ, up to the shorter list's end.
abbrev pub unlike : Bytes → Bytes → ℕ
unlike [] ys = 0
unlike (x ∷ xs) [] = 0
unlike (x ∷ xs) (y ∷ ys) = (if x == y then 0 else 1) + unlike xs ys

-- At how many numbers a segment's byte differs from the bytes in a list, whose first one has this
-- number.
abbrev pub differing_in_order : ℕ → Bytes → Segment → ℕ
differing_in_order next standing s =
    if nat_lt (ahead_of (first_of s) next) (2 ^ 31) then
    unlike (drop (ahead_of (first_of s) next) standing) s.payload.now
    else unlike standing (drop (ahead_of next (first_of s)) s.payload.now)

-- A count plus the number of bytes that differ from a kept one. For a stream that isn't read none
-- are known.
abbrev pub with_disagreeing : ℕ → Segment → Reading → Reading → ℕ → ℕ
with_disagreeing next s (Open h) (Open k) count =
    plus (plus count (differing_in_order next (run h.cells) s))
    (differing_in (first_of s) s.payload.now h)
with_disagreeing next s (Open h) Unbegun count = count
with_disagreeing next s (Open h) Over count = count
with_disagreeing next s Unbegun r count = count
with_disagreeing next s Over r count = count

-- Bytes that disagreed before they were added.
abbrev pub with_more_disagreeing : ℕ → Stream → Stream
with_more_disagreeing n t = record t { disagreeing = plus t.disagreeing n }

-- The stream isn't read further. The next byte that it would have read is the next to skip.
abbrev pub stopped : Stream → Reading → Stream
stopped t (Open h) = record t { reading = Over; passing = Some (unread_from t) }
stopped t Unbegun = record t { reading = Over }
stopped t Over = t

-- The bytes of a segment from a number on, unless it begins behind that.
abbrev pub is_next : ℕ → Segment → Bool
is_next n s = nat_lt (ahead_of n (first_of s)) (2 ^ 31)

abbrev pub bytes_from : ℕ → Segment → Bytes
bytes_from n s = if is_next n s then drop (ahead_of n (first_of s)) s.payload.now else []

-- The bytes that are passed on, and the next number. Nothing is passed on behind missing bytes.
abbrev pub passed : Option ℕ → Segment → Bytes
passed None s = []
passed (Some n) s = bytes_from n s

abbrev pub passing_behind : Option ℕ → Segment → Option ℕ
passing_behind None s = None
passing_behind (Some n) s = if is_next n s then
    Some ((n + length (bytes_from n s)) % 2 ^ 32) else None

-- A count plus the number of retransmitted bytes. Adding a segment grows what is stored by less
-- than its length by this many; in a stream that is read no further they are before the next one to
-- pass on.
abbrev pub passed_before : Option ℕ → Segment → ℕ → ℕ
passed_before None s count = count
passed_before (Some n) s count =
    plus count (if is_next n s then min (ahead_of n (first_of s)) (length s.payload.now) else 0)

abbrev pub with_repeated : Segment → Option ℕ → Reading → Reading → ℕ → ℕ
with_repeated s passing (Open h) (Open k) count =
    plus count (length s.payload.now - (came k - came h))
with_repeated s passing (Open h) Unbegun count = count
with_repeated s passing (Open h) Over count = count
with_repeated s passing Unbegun r count = count
with_repeated s passing Over r count = passed_before passing s count

-- The number behind the last data byte of a segment. There is no data behind a FIN, which occupies
-- a number too (RFC 9293, section 3.4).
abbrev pub end_of : Option ℕ → Segment → ℕ
end_of None s = behind_of s
end_of (Some fin) s = if is_behind (behind_of s) fin then fin else behind_of s

-- The number of this FIN counted as a byte: its sender went on from behind it, in a segment that
-- came before it.
abbrev pub counts_fin : Segment → Stream → Bool
counts_fin s t = ends s && t.last == (behind_of s + 1) % 2 ^ 32

abbrev pub last_of : Segment → Stream → ℕ
last_of s t = if counts_fin s t then behind_of s else t.last

abbrev pub length_of : Segment → Stream → ℕ
length_of s t = if counts_fin s t then t.length - 1 else t.length

-- What a segment's numbers show: how far its sender has come, and with FIN where the stream ends.
abbrev pub with_numbers : Segment → Stream → Stream
with_numbers s t = record t {
  last = if is_behind (end_of t.fin s) (last_of s t) then end_of t.fin s else last_of s t;
  length = plus (length_of s t) (advance (end_of t.fin s) (last_of s t));
  fin = if ends s then Some (behind_of s) else t.fin;
}

-- A segment's bytes are added, unless it ends too far after the first missing byte. Retransmitted
-- and differing bytes are counted.
abbrev pub with_bytes : Segment → Reading → Stream → Stream
with_bytes s r t = record t {
  reading = r;
  repeated = with_repeated s t.passing t.reading r t.repeated;
  disagreeing = with_disagreeing t.next s t.reading r t.disagreeing;
}

pub data HasPut (s : Segment) (old new : Stream) : Type 0 where
  left_out : IsLeftOut (first_of s) s.payload.now old.reading → new ≡ old → HasPut s old new
  taken :
      ¬ IsLeftOut (first_of s) s.payload.now old.reading
      → new ≡ with_bytes s (put (first_of s) s.payload.now old.reading) old → HasPut s old new

-- The stream begins with this number, if it is known and nothing came before.
abbrev pub begun_at : Option ℕ → Stream → Stream
begun_at None t = t
begun_at (Some start) t = record t {
  reading = begun HELD_LIMIT start t.reading;
  next = number_begun t.reading start t.next;
  last = number_begun t.reading start t.last;
}

-- With URG it gives the urgent byte, which counts if it didn't come yet and is behind the last
-- known one.
abbrev pub is_newer : Option ℕ → ℕ → Bool
is_newer None n = true
is_newer (Some known) n = is_behind n known

abbrev pub urgent_by : Option ℕ → ℕ → Option ℕ → Option ℕ
urgent_by None reached known = known
urgent_by (Some n) reached known = if is_newer known n && not (is_behind reached n) then
    Some n else known

abbrev pub urgent_in : Segment → Stream → Reading → Option ℕ
urgent_in s t (Open h) = urgent_by (urgent_of s) ((t.next + length (run h.cells)) % 2 ^ 32) t.urgent
urgent_in s t Unbegun = t.urgent
urgent_in s t Over = t.urgent

abbrev pub with_urgent : Segment → Stream → Stream
with_urgent s t = record t { urgent = urgent_in s t t.reading }

-- What is noted of a segment without RST before its bytes are added: the numbers of a stream that
-- began, and the urgent byte.
abbrev pub is_begun : Reading → Bool
is_begun Unbegun = false
is_begun (Open h) = true
is_begun Over = true

abbrev pub noted : Segment → Stream → Stream
noted s t = if is_begun t.reading then with_urgent s (with_numbers s t) else t

-- A segment with RST resets the stream, and its bytes aren't read. For any other the numbers are
-- noted and the bytes added.
pub record HasTaken (s : Segment) (old new : Stream) : Type 0 where
  pub taken : breaks s ≡ false → HasPut s (noted s old) new
  pub broken : breaks s ≡ true → new ≡ record old { is_broken = true }

-- All bytes before the FIN came, or aren't read any more.
abbrev pub is_read_to : ℕ → ℕ → Reading → Bool
is_read_to fin next (Open h) = (next + length (run h.cells)) % 2 ^ 32 == fin
is_read_to fin next Unbegun = true
is_read_to fin next Over = true

abbrev pub has_come_to : Option ℕ → ℕ → Reading → Bool
has_come_to None next r = false
has_come_to (Some fin) next r = is_read_to fin next r

-- The stream is closed: its sender sent RST, or all bytes before its FIN came.
abbrev pub is_over : Stream → Bool
is_over s = s.is_broken || has_come_to s.fin s.next s.reading

-- Bytes are missing before others that came, or before a FIN; or missing bytes were skipped.
abbrev pub lacks_next : Stream → Reading → Bool
lacks_next s (Open h) = is_behind s.last ((s.next + length (run h.cells)) % 2 ^ 32)
lacks_next s Unbegun = false
lacks_next s Over = false

abbrev pub lacks : Stream → Reading → Bool
lacks s r = s.has_skipped || lacks_next s r

-- The bytes in order are freed, read or not.
abbrev pub emptied : Stream → Held → Stream
emptied t h = record t {
  reading = Open (without_front (length (run h.cells)) h);
  next = (t.next + length (run h.cells)) % 2 ^ 32;
  received = 0;
}

-- How many bytes are missing behind them.
abbrev pub missing_in : Held → ℕ
missing_in h = gap (without_front (length (run h.cells)) h).cells

abbrev pub behind_missing : Stream → Held → Stream
behind_missing t h = record (emptied t h) {
  reading = Open (without_front (missing_in h) (without_front (length (run h.cells)) h));
  next = ((emptied t h).next + missing_in h) % 2 ^ 32;
  has_skipped = true;
}

-- If bytes came behind missing ones, the missing ones are skipped, and the unread ones before them.
abbrev pub skipping : Stream → Reading → Stream
skipping t (Open h) = if nat_lt 0 (known_behind h.cells) then behind_missing t h else t
skipping t Unbegun = t
skipping t Over = t

-- How many these are.
abbrev pub skipped_in : Stream → Reading → ℕ
skipped_in t (Open h) = if nat_lt 0 (known_behind h.cells)
    then plus (length (run h.cells) - t.received) (missing_in h) else 0
skipped_in t Unbegun = 0
skipped_in t Over = 0

-- Without memory the missing ones aren't skipped.
abbrev pub not_skipping : Stream → Reading → Stream
not_skipping t (Open h) = emptied t h
not_skipping t Unbegun = t
not_skipping t Over = t

-- How far it came in order, and whether it is read.
abbrev pub front_of : Stream → Reading → Front
front_of s (Open h) =
    record { reached = Some ((s.next + length (run h.cells)) % 2 ^ 32); is_read = true }
front_of s Unbegun = record { reached = None; is_read = false }
front_of s Over = record { reached = s.passing; is_read = false }

-- Bytes are missing before a number.
abbrev pub is_unreached : Option ℕ → Reading → ℕ → Bool
is_unreached (Some reached) r n = is_behind n reached
is_unreached None Unbegun n = true
is_unreached None (Open h) n = false
is_unreached None Over n = false

abbrev pub is_missing : ℕ → Stream → Bool
is_missing n s = is_unreached (front_of s s.reading).reached s.reading n

-- The stream's next number is that of the first byte that it stores, within the limit.
abbrev pub IsNumberOf : ℕ → Reading → Type 0
IsNumberOf next (Open h) = (next ≡ (h.first + h.taken) % 2 ^ 32) × (h.limit ≡ HELD_LIMIT)
IsNumberOf next Unbegun = ⊤
IsNumberOf next Over = ⊤

-- How many bytes a direction stores.
abbrev pub held_in : Reading → ℕ
held_in (Open h) = length (run h.cells) + known_behind h.cells
held_in Unbegun = 0
held_in Over = 0
