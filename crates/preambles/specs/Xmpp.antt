-- XMPP's STARTTLS (RFC 6120, section 5), tag by tag: a tag reaches to its ">", which isn't kept.
-- The client sends starttls, the server proceed or failure (section 5.4.2).
use Rattle.std.specs.Prelude.{ℕ, ◌-◌, Bool, ◌&&◌, ◌||◌, ◌==◌, not, if◌then◌else◌, List, [], ◌∷◌, codes, length, nat_lt, slice_index}
use Rattle.preambles.specs.Words.{begins}
use Rattle.preambles.specs.declared.phase.Outcome.TheVariants.{Tls, Plain, Unknown}
use Rattle.preambles.specs.declared.phase.Phase.{Phase}
use Rattle.preambles.specs.declared.phase.Phase.TheVariants.{Xmpp, Over}
use Rattle.preambles.specs.declared.phase.Protocol.TheVariants as protocol
use Rattle.preambles.specs.declared.phase.Side.{Side}
use Rattle.preambles.specs.declared.phase.Side.TheVariants as side
use Rattle.preambles.specs.declared.phase.XmppPhase.{XmppPhase}
use Rattle.preambles.specs.declared.phase.XmppPhase.TheVariants.{First, Client, StarttlsEnd, Server, ProceedEnd}

unfoldable pub xmpp_reads : XmppPhase → Side
xmpp_reads First = side.Client
xmpp_reads Client = side.Client
xmpp_reads StarttlsEnd = side.Client
xmpp_reads Server = side.Server
xmpp_reads ProceedEnd = side.Server

-- A tag behind its "<", without the text in front of it.
abbrev pub tag_in : List ℕ → List ℕ
tag_in [] = []
tag_in (b ∷ front) = if b == 60 then front else tag_in front

-- The tag of an element without content: its last byte is "/".
unfoldable pub is_closed : List ℕ → Bool
is_closed tag = nat_lt 0 (length tag) && slice_index tag (length tag - 1) == 47

-- The client's first tag, behind its "<": the XML declaration or the stream's.
unfoldable pub first_tag : List ℕ → Phase
first_tag tag =
    if begins (codes "?XML ") tag || begins (codes "STREAM:STREAM") tag then Xmpp Client
    else Over Unknown

unfoldable pub client_tag : List ℕ → Phase
client_tag tag =
    if not (begins (codes "STARTTLS") tag) then Xmpp Client
    else if is_closed tag then Xmpp Server
    else Xmpp StarttlsEnd

unfoldable pub server_tag : List ℕ → Phase
server_tag tag =
    if begins (codes "FAILURE") tag then Over Plain
    else if not (begins (codes "PROCEED") tag) then Xmpp Server
    else if is_closed tag then Over (Tls protocol.Xmpp)
    else Xmpp ProceedEnd

unfoldable pub xmpp_next : XmppPhase → List ℕ → Phase
xmpp_next First b = first_tag b
xmpp_next Client b = client_tag (tag_in b)
xmpp_next StarttlsEnd b = Xmpp Server
xmpp_next Server b = server_tag (tag_in b)
xmpp_next ProceedEnd b = Over (Tls protocol.Xmpp)
