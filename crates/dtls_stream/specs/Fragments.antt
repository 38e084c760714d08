-- Fragments of a DTLS handshake message (RFC 6347, sections 4.2.2 and 4.2.3), in any order, with
-- repeats and overlaps.
use Rattle.std.specs.Prelude.{◌≡◌, ℕ, ◌+◌, ◌-◌, ◌<◌, ◌≤◌, cond, nat_le, nat_lt, Option, Some, None, IsSome, Result, Ok, Err, ◌==◌, List, [], ◌∷◌, length, take, drop, map, slice_index}
use Rattle.layouts.specs.Bytes.{Bytes}
use Rattle.segments.specs.Cells.{Cells, cell}
use Rattle.layouts.specs.Layout.{Layout, done, number, block, ◌>>=◌}
use Rattle.dtls_stream.specs.declared.fragments.Fragment.{Fragment as Lent}
use Rattle.dtls_stream.specs.declared.fragments.FragmentError.{FragmentError}
use Rattle.dtls_stream.specs.declared.fragments.FragmentError.TheVariants.{Outside, OtherLength, OtherMessage}

-- The fields of a Handshake (section 4.2.2) with all of its body or a part of it; its
-- fragment_length is the length of the part.
pub record Fragment : Type 0 where
  pub msg_type : ℕ
  -- length of the whole message's body
  pub length : ℕ
  pub message_seq : ℕ
  pub fragment_offset : ℕ
  pub body : Bytes

abbrev pub view_fragment : Lent → Fragment
view_fragment f = record {
  msg_type = f.msg_type.0;
  length = f.length;
  message_seq = f.message_seq;
  fragment_offset = f.fragment_offset;
  body = f.body.now;
}

abbrev pub view_fragments : List Lent → List Fragment
view_fragments fs = map view_fragment fs

-- HandshakeType msg_type; uint24 length; uint16 message_seq; uint24 fragment_offset; uint24
-- fragment_length; and that many bytes of the body (section 4.2.2).
unfoldable pub fragment : Layout Fragment
fragment = do
  kind ← number 1
  len ← number 3
  seq ← number 2
  offset ← number 3
  fragment_length ← number 3
  bytes ← block fragment_length
  done (record {
    msg_type = kind;
    length = len;
    message_seq = seq;
    fragment_offset = offset;
    body = bytes;
  })

-- The byte at place i of a body, given by the first n of these bytes, which begin at offset.
abbrev pub given : ℕ → Bytes → ℕ → ℕ → Option ℕ
given offset b n i =
    cond (nat_le offset i) (cond (nat_lt i (offset + n)) (Some (slice_index b (i - offset))) None)
    None

-- The byte at place i of a body, given by a fragment.
abbrev pub byte_at : Fragment → ℕ → Option ℕ
byte_at f i = given f.fragment_offset f.body (length f.body) i

-- The first of two that is known.
abbrev pub or_else : Option ℕ → Option ℕ → Option ℕ
or_else (Some x) y = Some x
or_else None y = y

-- The byte at place i, from the first fragment that covers it.
abbrev pub first_at : List Fragment → ℕ → Option ℕ
first_at [] i = None
first_at (f ∷ fs) i = or_else (byte_at f i) (first_at fs i)

-- There are fragments, and they cover every place below n.
pub record Cover (fs : List Fragment) (n : ℕ) : Type 0 where
  pub some : 0 < length fs
  pub each : (i : ℕ) → i < n → IsSome (first_at fs i)

-- A fragment lies within its message.
abbrev pub inside : Fragment → Result Unit FragmentError
inside f = cond (nat_le (f.fragment_offset + length f.body) f.length) (Ok tt) (Err Outside)

-- Whether a fragment has this length of its message, and lies within it. Its type isn't compared:
-- the first one is kept.
abbrev pub agrees : ℕ → Fragment → Result Unit FragmentError
agrees len f = cond (len == f.length) (inside f) (Err OtherLength)

-- A message that is cut into fragments.
pub record Whole : Type 0 where
  pub msg_type : ℕ
  pub message_seq : ℕ
  pub body : Bytes

-- A fragment of this message.
pub record IsOf (m : Whole) (f : Fragment) : Type 0 where
  pub msg_type : f.msg_type ≡ m.msg_type
  pub size : f.length ≡ length m.body
  pub message_seq : f.message_seq ≡ m.message_seq
  pub inside : f.fragment_offset + length f.body ≤ length m.body
  pub bytes : f.body ≡ take (length f.body) (drop f.fragment_offset m.body)

-- A message that is being reassembled: the fields that its fragments give, and at each place of its
-- body the byte that arrived there first, if any.
pub record Held : Type 0 where
  pub msg_type : ℕ
  pub message_seq : ℕ
  pub size : ℕ
  pub cells : Cells

abbrev pub byte : Held → ℕ → Option ℕ
byte h i = cell h.cells i

-- All fragments of a message have the same type and length.
pub record IsOfSame (h : Held) (f : Fragment) : Type 0 where
  pub msg_type : h.msg_type ≡ f.msg_type
  pub size : h.size ≡ f.length
  pub message_seq : h.message_seq ≡ f.message_seq

-- No byte is known.
pub record IsBegun (h : Held) (f : Fragment) : Type 0 where
  pub same : IsOfSame h f
  pub none : (i : ℕ) → byte h i ≡ None

-- Whether a fragment is added: it is of this message, gives the same length, and lies within it.
abbrev pub judged : Held → Fragment → Result Unit FragmentError
judged h f = cond (h.message_seq == f.message_seq) (agrees h.size f) (Err OtherMessage)

-- A fragment's bytes are added where none are known yet.
pub record IsAdded (old : Held) (f : Fragment) (new : Held) : Type 0 where
  pub msg_type : new.msg_type ≡ old.msg_type
  pub size : new.size ≡ old.size
  pub message_seq : new.message_seq ≡ old.message_seq
  pub bytes : (i : ℕ) → byte new i ≡ or_else (byte old i) (byte_at f i)

-- All bytes are known.
abbrev pub IsComplete : Held → Type 0
IsComplete h = (i : ℕ) → i < h.size → IsSome (byte h i)

-- b is the whole body.
pub record IsBody (h : Held) (b : Bytes) : Type 0 where
  pub size : length b ≡ h.size
  pub bytes : (i : ℕ) → i < h.size → byte h i ≡ Some (slice_index b i)
