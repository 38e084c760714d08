-- The certificates that are kept of a connection.
use Rattle.std.specs.Prelude.{◌≡◌, ◌==◌, ◌++◌, ◌+◌, ◌-◌, ◌^◌, if◌then◌else◌, min, ℕ, List, [], ◌∷◌, map, Option, Some, None, Ok, Err, vec_capacity}
use Rattle.std.specs.declared.alloc.AllocError.{AllocError}
use Rattle.layouts.specs.Bytes.{Bytes}
use Rattle.layouts.specs.Items.{items_in}
use Rattle.layouts.specs.Layout.{counted}
use Rattle.layouts.specs.Meaning.{Answer}
use Rattle.layouts.specs.Reading.{reading}
use Rattle.tls_flow.specs.Bytes.{HandshakeMessage}
use Rattle.tls_flow.specs.declared.symbol.Direction.{Direction}
use Rattle.tls_flow.specs.declared.symbol.Direction.TheVariants.{ToServer, FromServer}
use Rattle.tls_hs.specs.Certificate.{certificate}
use Rattle.log_messages.specs.declared.certificate_collector.SentCertificate.{SentCertificate}
use Rattle.log_messages.specs.declared.certificate_lists.CertificateLists.{CertificateLists}

abbrev pub list_if : Answer (List Bytes) → Option (List Bytes)
list_if (Ok x) = Some x.0
list_if (Err e) = None

-- The certificates of a message, the sender's own first, if it is a Certificate (RFC 5246, section
-- 7.4.2).
abbrev pub certificates_of : Option HandshakeMessage → Option (List Bytes)
certificates_of None = None
certificates_of (Some m) =
    if m.msg_type == 11 then list_if (reading certificate m.body) else None

abbrev pub opposite : Direction → Direction
opposite ToServer = FromServer
opposite FromServer = ToServer

-- The list that is kept of a direction's sender: certificates, each after 3 bytes of length.
abbrev pub list_of : Direction → CertificateLists → Bytes
list_of ToServer l = l.client.items
list_of FromServer l = l.server.items

abbrev pub kept_of : Direction → CertificateLists → List Bytes
kept_of d l = items_in (counted 3) (list_of d l)

-- How many bytes of memory the lists take.
abbrev pub capacity_of : CertificateLists → ℕ
capacity_of l = min (vec_capacity l.client + vec_capacity l.server) (2 ^ 64 - 1)

abbrev pub latest : Option (List Bytes) → List Bytes → List Bytes
latest (Some chain) old = chain
latest None old = old

-- The certificates of a direction's last Certificate are kept; those of the other direction stay.
pub record KeepsLast (d : Direction) (chain : Option (List Bytes)) (old new : CertificateLists)
    : Type 0 where
  pub its : kept_of d new ≡ latest chain (kept_of d old)
  pub others : list_of (opposite d) new ≡ list_of (opposite d) old

-- A certificate, its sender, how many are before it in its chain, and how many both sides sent
-- before it.
pub record Sent : Type 0 where
  pub direction : Direction
  pub place : ℕ
  pub number : ℕ
  pub bytes : Bytes

abbrev pub view_sent : SentCertificate → Sent
view_sent c = record {
  direction = c.direction;
  place = c.place;
  number = c.number;
  bytes = c.bytes.items;
}

-- One more certificate. A count saturates.
abbrev pub next_count : ℕ → ℕ
next_count n = min (n + 1) (2 ^ 64 - 1)

-- The certificates of a chain, the first at this place, and behind so many of both sides.
abbrev pub sent_from : Direction → ℕ → ℕ → List Bytes → List Sent
sent_from d place number [] = []
sent_from d place number (c ∷ cs) =
    record { direction = d; place = place; number = number; bytes = c }
    ∷ sent_from d (next_count place) (next_count number) cs

-- The certificates of a message, behind so many of both sides.
abbrev pub sent_in : Direction → ℕ → Option (List Bytes) → List Sent
sent_in d number None = []
sent_in d number (Some chain) = sent_from d 0 number chain

-- How many both sides have sent, with those of a chain.
abbrev pub counted_from : ℕ → List Bytes → ℕ
counted_from n [] = n
counted_from n (c ∷ cs) = counted_from (next_count n) cs

abbrev pub counted_behind : ℕ → Option (List Bytes) → ℕ
counted_behind n None = n
counted_behind n (Some chain) = counted_from n chain
