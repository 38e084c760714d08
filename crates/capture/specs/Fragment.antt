-- IP fragments (RFC 791, section 3.2; RFC 8200, section 4.5).
use Rattle.std.specs.Prelude.{ℕ, zero, suc, ◌+◌, ◌-◌, ◌*◌, ◌/◌, ◌%◌, ◌==◌, ◌&&◌, not, nat_le, Bool, true, Option, Some, None, length, if◌then◌else◌}
use Rattle.layouts.specs.Bytes.{Bytes}
use Rattle.layouts.specs.Layout.{Layout, done, refuse, number, block, rest, look, window, complete, test, choose, mapped, ◌>>=◌, ◌>>◌}
use Rattle.layouts.specs.declared.result.ErrorKind.TheVariants.{LengthValue, Switch}
use Rattle.capture.specs.Words.{words, is_right}
use Rattle.capture.specs.Transport.{Content, view_content}
use Rattle.capture.specs.Ip.{Address, V4, V6, Datagram, view_address, address_v6, fields_v4, front_v6, headers, is_extension, is_fragment_v4, lengths_v4, protected, skipped}
use Rattle.capture.specs.declared.fragment.IpFragment.{IpFragment as LentFragment}
use Rattle.capture.specs.declared.fragment.Piece.{Piece as LentPiece}
use Rattle.capture.specs.declared.fragment.PieceStep.{PieceStep as LentPieceStep}
use Rattle.capture.specs.declared.fragment.PieceStep.TheVariants as piece_step

-- A fragment of a datagram: the fields of its header, and its bytes.
pub record Fragment : Type 0 where
  pub source : Address
  pub destination : Address
  pub identification : ℕ
  -- the datagram's protocol; in IPv6 the first header behind the Fragment header
  pub protocol : ℕ
  -- the offset of its bytes in the datagram, and whether more fragments follow
  pub offset : ℕ
  pub has_more : Bool
  -- the length of the headers that count for the datagram's length and come before all fragments
  pub in_front : ℕ
  -- the ECN field (RFC 3168, section 5)
  pub ecn : ℕ
  pub is_header_right : Bool
  pub payload : Bytes

abbrev pub view_fragment : LentFragment → Fragment
view_fragment f = record {
  source = view_address f.source;
  destination = view_address f.destination;
  identification = f.identification;
  protocol = f.protocol;
  offset = f.offset;
  has_more = f.has_more;
  in_front = f.in_front;
  ecn = f.ecn;
  is_header_right = f.is_header_right;
  payload = f.payload.now;
}

-- An IPv4 fragment. MF is the bit 0x2000; the offset is 13 bits, in units of 8 bytes. The fragment
-- ends at its total length.
unfoldable pub fragment_v4 : Layout Fragment
fragment_v4 = do
  lengths ← lengths_v4
  identification ← look (number 2)
  fields ← fields_v4
  test (is_fragment_v4 fields.flags) Switch
  options ← block (lengths.header - 20)
  payload ← block (lengths.total - lengths.header)
  done (record {
    source = V4 fields.source;
    destination = V4 fields.destination;
    identification = identification;
    protocol = fields.protocol;
    offset = fields.flags % 8192 * 8;
    has_more = fields.flags / 8192 % 2 == 1;
    in_front = lengths.header;
    ecn = lengths.service % 4;
    is_header_right = is_right (lengths.words + fields.words + words options);
    payload = payload;
  })

-- The fields of a Fragment header, and the bytes behind it.
pub record Piece : Type 0 where
  pub next : ℕ
  pub offset : ℕ
  pub identification : ℕ
  pub payload : Bytes

abbrev pub view_piece : LentPiece → Piece
view_piece p =
    record {
      next = p.next;
      offset = p.offset;
      identification = p.identification;
      payload =
          p.payload.now;
    }

-- What follows a header, in the search for a Fragment header.
pub data PieceStep : Type 0 where
  -- another header, of this number
  Further : ℕ → PieceStep
  -- a fragment
  Cut : Piece → PieceStep

abbrev pub view_piece_step : LentPieceStep → PieceStep
view_piece_step (piece_step.Further next) = Further next
view_piece_step (piece_step.Cut p) = Cut (view_piece p)

-- Next header; reserved; offset (13 bits), reserved (2), the bit M; identification (RFC 8200,
-- section 4.5). A fragment that is the whole datagram is skipped to the next header (RFC 6946).
unfoldable pub piece : Layout PieceStep
piece = do
  next ← number 1
  block 1
  offset ← number 2
  identification ← number 4
  payload ← look rest
  done (if (offset / 8 == 0) && (offset % 2 == 0) then Further next
      else Cut (record {
        next = next;
        offset = offset;
        identification = identification;
        payload =
            payload;
      }))

-- What follows a header of this number: 51 is the Authentication Header (RFC 4302, section 2.2), 44
-- a Fragment header.
unfoldable pub piece_step_at : ℕ → Layout PieceStep
piece_step_at next =
    choose (is_extension next) (mapped Further (skipped 8)) (
    choose (next == 51) (mapped Further (skipped 4)) (
    choose (next == 44) piece (
    refuse Switch)))

abbrev pub piece_then : (ℕ → Layout Piece) → PieceStep → Layout Piece
piece_then f (Further next) = f next
piece_then f (Cut p) = done p

-- The fragment behind at most this many headers.
unfoldable pub piece_behind : ℕ → ℕ → Layout Piece
piece_behind zero next = refuse Switch
piece_behind (suc n) next = piece_step_at next >>= piece_then (piece_behind n)

-- An IPv6 fragment, behind at most 16 headers, up to the payload length. The headers between the
-- IPv6 header and the Fragment header, which is 8 bytes, belong to the whole datagram too.
unfoldable pub fragment_v6 : Layout Fragment
fragment_v6 = do
  front ← front_v6
  source ← address_v6
  destination ← address_v6
  piece ← window front.len (complete (piece_behind 16 front.next))
  done (record {
    source = source;
    destination = destination;
    identification = piece.identification;
    protocol = piece.next;
    offset = piece.offset / 8 * 8;
    has_more = piece.offset % 2 == 1;
    in_front = front.len - length piece.payload - 8;
    ecn = front.ecn;
    is_header_right = true;
    payload = piece.payload;
  })

-- The content of a reassembled datagram, all of the bytes, by the protocol of its first fragment.
abbrev pub joined_content : Address → ℕ → Layout Content
joined_content (V4 n) protocol = complete (protected protocol)
joined_content (V6 upper lower) protocol = complete (headers 16 protocol)

unfoldable pub joined : Address → Address → ℕ → Bool → Layout Datagram
joined source destination protocol right = do
  content ← joined_content source protocol
  done (record {
    source = source;
    destination = destination;
    is_header_right =
        right;
    content = content;
  })
