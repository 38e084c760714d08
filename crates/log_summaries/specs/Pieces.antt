-- The pieces of a connection that are kept until they are printed.
use Rattle.std.specs.Prelude.{◌≡◌, ℕ, Bool, true, false, List, [], Option, Some, None}
use Rattle.std.specs.Option.{option_map}
use Rattle.layouts.specs.Bytes.{Bytes}
use Rattle.log_connections.specs.declared.analysis.PieceKind.{PieceKind}
use Rattle.log_connections.specs.declared.analysis.PieceKind.TheVariants as kind
use Rattle.log_connections.specs.declared.analysis.TlsAnalysis.{TlsAnalysis}
use Rattle.log_messages.specs.Certificates.{capacity_of, list_of}
use Rattle.log_messages.specs.Messages.{messages_of, sent_by_both, writes_numbers}
use Rattle.log_messages.specs.declared.certificate_collector.CertificateCollector.{CertificateCollector}
use Rattle.log_messages.specs.declared.certificate_collector.SentCertificate.{SentCertificate}
use Rattle.log_messages.specs.declared.certificate_lists.CertificateLists.{CertificateLists}
use Rattle.log_messages.specs.declared.message_collector.MessageCollector.{MessageCollector}
use Rattle.log_messages.specs.declared.message_collector.SentMessage.{SentMessage}
use Rattle.tls_flow.specs.declared.symbol.Direction.{Direction}
use Rattle.tls_flow.specs.declared.symbol.Direction.TheVariants.{ToServer, FromServer}
use Rattle.log_summaries.specs.declared.analysis.CollectedPieces.{CollectedPieces}
use Rattle.log_summaries.specs.declared.analysis.CollectedPieces.TheVariants.{Messages, Certificates, Chains}

-- A message collector is empty, and writes cipher suites by number or not.
pub record IsNewMessages (numbered : Bool) (m : MessageCollector) : Type 0 where
  pub none : messages_of m ≡ []
  pub numbers : writes_numbers m ≡ numbered

-- A certificate collector is empty, and neither side has sent one.
pub record IsNewCertificates (c : CertificateCollector) : Type 0 where
  pub none : c.kept.items ≡ []
  pub unsent : c.count ≡ 0

-- Neither side has a chain.
pub record IsNewChains (l : CertificateLists) : Type 0 where
  pub client : list_of ToServer l ≡ []
  pub server : list_of FromServer l ≡ []

-- The collector is for pieces of this kind, and has none yet.
abbrev pub IsCollectorOf : PieceKind → CollectedPieces → Type 0
IsCollectorOf kind.Messages (Messages m) = IsNewMessages false m
IsCollectorOf kind.NumberedMessages (Messages m) = IsNewMessages true m
IsCollectorOf kind.Certificates (Certificates c) = IsNewCertificates c
IsCollectorOf kind.Chains (Chains l) = IsNewChains l
IsCollectorOf k c = ⊥

-- How many bytes of memory the pieces take that are kept beyond a packet.
abbrev pub bytes_of : CollectedPieces → ℕ
bytes_of (Messages m) = 0
bytes_of (Certificates c) = 0
bytes_of (Chains l) = capacity_of l

-- The collector of an analysis, if pieces are kept.
abbrev pub collector_of : TlsAnalysis CollectedPieces → Option CollectedPieces
collector_of a = option_map (λ b. b.value) a.collector

-- The certificates that the sender of this direction sent, if chains are kept.
abbrev pub chain_in : Direction → Option CollectedPieces → Bytes
chain_in d (Some (Chains l)) = list_of d l
chain_in d (Some (Messages m)) = []
chain_in d (Some (Certificates c)) = []
chain_in d None = []

-- The messages of a collector.
abbrev pub sent_messages : CollectedPieces → List SentMessage
sent_messages (Messages m) = messages_of m
sent_messages (Certificates c) = []
sent_messages (Chains l) = []

-- The certificates of a collector that keeps each until its line is written.
abbrev pub sent_certificates : CollectedPieces → List SentCertificate
sent_certificates (Messages m) = []
sent_certificates (Certificates c) = c.kept.items
sent_certificates (Chains l) = []

-- How many messages or certificates both sides have sent, if each has a line.
abbrev pub count_in : CollectedPieces → ℕ
count_in (Messages m) = sent_by_both m.kept
count_in (Certificates c) = c.count
count_in (Chains l) = 0

abbrev pub piece_count_in : Option CollectedPieces → ℕ
piece_count_in None = 0
piece_count_in (Some p) = count_in p

-- The messages that are kept.
abbrev pub messages_in : Option CollectedPieces → List SentMessage
messages_in None = []
messages_in (Some p) = sent_messages p

-- The certificates that are kept until their lines are written.
abbrev pub certificates_in : Option CollectedPieces → List SentCertificate
certificates_in None = []
certificates_in (Some p) = sent_certificates p

-- All messages were taken. What further ones depend on stays.
pub record IsEmptied (old new : MessageCollector) : Type 0 where
  pub none : messages_of new ≡ []
  pub same : new ≡ record old { kept = record old.kept { messages = new.kept.messages } }

-- All certificates were taken.
pub record HasNoCertificates (old new : CertificateCollector) : Type 0 where
  pub none : new.kept.items ≡ []
  pub same : new ≡ record old { kept = new.kept }

-- A collector of messages has none left. Any other stays.
abbrev pub GivesMessages : CollectedPieces → CollectedPieces → Type 0
GivesMessages (Messages m) (Messages n) = IsEmptied m n
GivesMessages (Messages m) p = ⊥
GivesMessages (Certificates c) p = p ≡ Certificates c
GivesMessages (Chains l) p = p ≡ Chains l

-- A collector of certificates has none left. Any other stays.
abbrev pub GivesCertificates : CollectedPieces → CollectedPieces → Type 0
GivesCertificates (Certificates c) (Certificates d) = HasNoCertificates c d
GivesCertificates (Certificates c) p = ⊥
GivesCertificates (Messages m) p = p ≡ Messages m
GivesCertificates (Chains l) p = p ≡ Chains l

-- The collector changed in this way, if there is one.
abbrev pub Gives : (CollectedPieces → CollectedPieces → Type 0) → Option CollectedPieces
    → Option CollectedPieces → Type 0
Gives R None new = new ≡ None
Gives R (Some p) None = ⊥
Gives R (Some p) (Some q) = R p q
