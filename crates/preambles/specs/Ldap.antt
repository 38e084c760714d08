-- LDAP's StartTLS (RFC 4511, section 4.14): messages of BER (section 5.1), each a SEQUENCE of a
-- number and an operation.
use Rattle.std.specs.Prelude.{ℕ, ◌+◌, ◌-◌, ◌*◌, Bool, false, ◌&&◌, ◌||◌, ◌==◌, nat_le, nat_lt, if◌then◌else◌, List, [], ◌∷◌, codes, length, drop}
use Rattle.preambles.specs.Words.{begins}
use Rattle.preambles.specs.declared.phase.Frame.{Frame}
use Rattle.preambles.specs.declared.phase.Frame.TheVariants.{Count}
use Rattle.preambles.specs.declared.phase.LdapPhase.{LdapPhase}
use Rattle.preambles.specs.declared.phase.LdapPhase.TheVariants.{Tag, Length, LongLength, Content}
use Rattle.preambles.specs.declared.phase.Outcome.TheVariants.{Tls, Unknown}
use Rattle.preambles.specs.declared.phase.Phase.{Phase}
use Rattle.preambles.specs.declared.phase.Phase.TheVariants.{Ldap, Over}
use Rattle.preambles.specs.declared.phase.Protocol.TheVariants as protocol
use Rattle.preambles.specs.declared.phase.Role.{Role}
use Rattle.preambles.specs.declared.phase.Role.TheVariants.{Request, Answer}
use Rattle.preambles.specs.declared.phase.Side.{Side}
use Rattle.preambles.specs.declared.phase.Side.TheVariants.{Client, Server}

unfoldable pub ldap_reads : Role → Side
ldap_reads Request = Client
ldap_reads (Answer asked) = Server

unfoldable pub ldap_frame : LdapPhase → Frame
ldap_frame Tag = Count 1
ldap_frame Length = Count 1
ldap_frame (LongLength k) = Count k
ldap_frame (Content n) = Count n

unfoldable pub of_length : Role → ℕ → Phase
of_length r n = if n == 0 then Over Unknown else Ldap r (Content n)

-- A length below 128 has one byte; others have 1 to 4 bytes behind their number and 128 (X.690,
-- section 8.1.3).
unfoldable pub length_next : Role → List ℕ → Phase
length_next r [] = Over Unknown
length_next r (n ∷ rest) =
    if nat_lt n 128 then of_length r n
    else if nat_lt 128 n && nat_le n 132 then Ldap r (LongLength (n - 128))
    else Over Unknown

unfoldable pub long_length : List ℕ → ℕ
long_length (a ∷ []) = a
long_length (a ∷ b ∷ []) = a * 256 + b
long_length (a ∷ b ∷ c ∷ []) = a * 65536 + b * 256 + c
long_length (a ∷ b ∷ c ∷ d ∷ []) = a * 16777216 + b * 65536 + c * 256 + d
long_length _ = 0

-- The operation of a message, behind its number, an INTEGER.
unfoldable pub operation : List ℕ → List ℕ
operation (t ∷ n ∷ rest) = if t == 2 && nat_le n (length rest) then drop n rest else []
operation _ = []

-- What stands behind a length.
unfoldable pub behind_length : List ℕ → List ℕ
behind_length [] = []
behind_length (n ∷ rest) =
    if nat_lt n 128 then rest
    else if nat_le (n - 128) (length rest) then drop (n - 128) rest
    else []

unfoldable pub tag_of : List ℕ → ℕ
tag_of [] = 0
tag_of (t ∷ b) = t

-- An ExtendedRequest (section 4.12) whose requestName is that of StartTLS.
unfoldable pub has_name : List ℕ → Bool
has_name [] = false
has_name (t ∷ rest) = t == 0x80 && begins (codes "1.3.6.1.4.1.1466.20037") (behind_length rest)

unfoldable pub is_starttls : List ℕ → Bool
is_starttls [] = false
is_starttls (t ∷ rest) = t == 0x77 && has_name (behind_length rest)

-- An ExtendedResponse with the resultCode 0.
unfoldable pub is_success : List ℕ → Bool
is_success [] = false
is_success (t ∷ rest) = t == 0x78 && begins (10 ∷ 1 ∷ 0 ∷ []) (behind_length rest)

-- UnbindRequest and AbandonRequest have no answer (sections 4.3 and 4.11); entries, references and
-- intermediate responses come before it (sections 4.5.2 and 4.13).
unfoldable pub content_next : Role → List ℕ → Phase
content_next Request b =
    if tag_of (operation b) == 0x42 || tag_of (operation b) == 0x50 then Ldap Request Tag
    else Ldap (Answer (is_starttls (operation b))) Tag
content_next (Answer asked) b =
    if tag_of (operation b) == 0x64 || tag_of (operation b) == 0x73 || tag_of (operation b) == 0x79
    then Ldap (Answer asked) Tag
    else if asked && is_success (operation b) then Over (Tls protocol.Ldap)
    else Ldap Request Tag

unfoldable pub ldap_next : Role → LdapPhase → List ℕ → Phase
ldap_next r Tag b = if tag_of b == 0x30 then Ldap r Length else Over Unknown
ldap_next r Length b = length_next r b
ldap_next r (LongLength k) b = of_length r (long_length b)
ldap_next r (Content n) b = content_next r b
