-- The words of a line. A line is in upper case, without its LF.
use Rattle.std.specs.Prelude.{ℕ, ◌+◌, ◌-◌, ◌*◌, Bool, true, ◌&&◌, ◌||◌, ◌==◌, not, nat_eq, nat_le, nat_lt, fold, if◌then◌else◌, List, [], ◌∷◌, codes}
use Rattle.std.specs.List.{starts_with}
use Rattle.std.specs.Str.{bytes_eq}
use Rattle.preambles.specs.declared.phase.Command.{Command}
use Rattle.preambles.specs.declared.phase.Word.{Word}
use Rattle.preambles.specs.declared.phase.Word.TheVariants.{Starttls, Stls, Auth, Tls, Lhlo, Capa, Login, Authenticate, Other}

-- A line begins with these bytes.
abbrev pub begins : List ℕ → List ℕ → Bool
begins front line = starts_with nat_eq line front

-- A space or CR ends a word.
abbrev pub ends_word : ℕ → Bool
ends_word b = b == 32 || b == 13

abbrev pub first_word : List ℕ → List ℕ
first_word [] = []
first_word (b ∷ line) = if ends_word b then [] else b ∷ first_word line

abbrev pub behind_word : List ℕ → List ℕ
behind_word [] = []
behind_word (b ∷ line) = if ends_word b then line else behind_word line

-- Commands that log in: POP3's PASS and APOP (RFC 1939), IMAP's LOGIN (RFC 9051, section 6.2.3).
unfoldable pub is_login : List ℕ → Bool
is_login w =
    bytes_eq w (codes "PASS") || bytes_eq w (codes "APOP") || bytes_eq w (codes "LOGIN")

unfoldable pub word_of : List ℕ → Word
word_of w =
    if bytes_eq w (codes "STARTTLS") then Starttls
    else if bytes_eq w (codes "STLS") then Stls
    else if bytes_eq w (codes "AUTH") then Auth
    else if bytes_eq w (codes "TLS") || bytes_eq w (codes "SSL") then Tls
    else if bytes_eq w (codes "LHLO") then Lhlo
    else if bytes_eq w (codes "CAPA") then Capa
    else if is_login w then Login
    else if bytes_eq w (codes "AUTHENTICATE") then Authenticate
    else Other

-- The first two words of a line.
unfoldable pub command_of : List ℕ → Command
command_of line = record {
  first = word_of (first_word line);
  second = word_of (first_word (behind_word line));
}

abbrev pub is_digit : ℕ → Bool
is_digit b = nat_le 48 b && nat_le b 57

-- The code of a reply (RFC 5321, section 4.2; RFC 959, section 4.2; RFC 3977, section 3.2): three
-- digits; 0 if the line begins otherwise.
unfoldable pub code_of : List ℕ → ℕ
code_of (a ∷ b ∷ c ∷ line) =
    if is_digit a && is_digit b && is_digit c
    then (a - 48) * 100 + (b - 48) * 10 + (c - 48) else 0
code_of _ = 0

-- Behind the code a hyphen says that another line of the reply follows (RFC 5321, section 4.2.1).
unfoldable pub is_last : List ℕ → Bool
is_last (a ∷ b ∷ c ∷ d ∷ line) = not (d == 45)
is_last _ = true

-- A number with a digit behind it, in decimal; one of more than 8 digits stays as it is.
unfoldable pub number_after : ℕ → ℕ → ℕ
number_after n b = if is_digit b && nat_lt n 10000000 then n * 10 + (b - 48) else n

-- The number that the digits of a line are.
abbrev pub number_in : List ℕ → ℕ
number_in line = fold number_after 0 line
