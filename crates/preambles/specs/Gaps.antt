-- How a dialogue goes on behind missing bytes of the side that it reads.
use Rattle.preambles.specs.Rows.{value}
use Rattle.preambles.specs.Walk.{Place, enter}
use Rattle.preambles.specs.declared.phase.Command.{Command as Words}
use Rattle.preambles.specs.declared.phase.Outcome.TheVariants as outcome
use Rattle.preambles.specs.declared.phase.Phase.{Phase}
use Rattle.preambles.specs.declared.phase.Phase.TheVariants.{Opening, Greeting, GreetingRest, Command, Value, Reply, Listing, IrcCommand, IrcReply, Tds, Xmpp, Over}
use Rattle.preambles.specs.declared.phase.Protocol.TheVariants as protocol
use Rattle.preambles.specs.declared.phase.TdsPhase.TheVariants.{AnswerHeader}
use Rattle.preambles.specs.declared.phase.Word.TheVariants.{Other}
use Rattle.preambles.specs.declared.phase.XmppPhase.TheVariants as xmpp

-- A part of what it reads is missing, and the next line or packet begins in the same phase.
abbrev pub again : Place → Place
again p = enter p.phase

-- A command without a known word.
abbrev pub any_command : Words
any_command = record { first = Other; second = Other }

-- All that it reads is missing: a command, which the server answers; the rest of an answer, which a
-- command follows; a request for TLS, or the only answer to one.
unfoldable pub phase_behind : Phase → Phase
phase_behind Opening = Greeting any_command
phase_behind (GreetingRest d c) = Reply d c
phase_behind (Command d) = Reply d any_command
phase_behind (Value d) = Reply d value
phase_behind (Reply d c) = Command d
phase_behind (Listing d) = Command d
phase_behind IrcCommand = IrcReply
phase_behind (Xmpp xmpp.Client) = Xmpp xmpp.Server
phase_behind (Tds AnswerHeader) = Over (outcome.Tls protocol.Tds)
phase_behind p = p

abbrev pub passed : Place → Place
passed p = enter (phase_behind p.phase)
