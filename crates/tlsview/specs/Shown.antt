-- What a step of the run printed and followed.
use Rattle.std.specs.Prelude.{◌≡◌, ◌≢◌, ◌++◌, ◌||◌, ℕ, Bool, List, Option, Some, None, option_map, Result, Ok, Err}
use Rattle.layouts.specs.Meaning.{Answer, Refusal, Broken, Lacks}
use Rattle.layouts.specs.Reading.{reading}
use Rattle.tls_records.specs.Record.{RawRecord, raw_record}
use Rattle.tls_states.specs.declared.state.TlsState.{TlsState}
use Rattle.tlsview.specs.Fault.{Fault, Refused, view_fault}
use Rattle.tlsview.specs.Out.{Content, Half, content_of, content_text, state_behind, cipher_behind, end_of, half_part, line_part}
use Rattle.tlsview.specs.Exit.{status_of}
use Rattle.tlsview.specs.declared.conversation.ViewedConversation.{ViewedConversation}
use Rattle.tlsview.specs.declared.direction.LineDirection.{LineDirection}
use Rattle.tlsview.specs.declared.exit.ViewExit.{ViewExit}
use Rattle.tlsview.specs.declared.exit.ViewExit.TheVariants.{Failed}
use Rattle.tlsview.specs.declared.fault.ViewFault as rust_fault
use Rattle.tlsview.specs.declared.records.NextRecord as rust
use Rattle.tlsview.specs.declared.records.NextRecord.TheVariants as next

-- the state after a part, or the fault that ended it
abbrev pub or_fault : Option Fault → Half → Result Half Fault
or_fault None h = Ok h
or_fault (Some fault) h = Err fault

abbrev pub or_end : Option Fault → ViewedConversation → Result ViewedConversation Fault
or_end None c = Ok c
or_end (Some fault) c = Err fault

-- a record's content was printed and followed, and whether the next record is encrypted is
-- returned; or its refusal is the fault
abbrev pub IsShown : LineDirection → List ℕ → TlsState → List ℕ → TlsState → Bool
    → Result Content Refusal → rust.NextRecord
    → Type 0
IsShown d text state text' state' enc (Ok c) (next.Record enc') =
    (text' ≡ text ++ content_text d c) × (state' ≡ state_behind d state c)
    × (enc' ≡ (enc || cipher_behind c))
IsShown d text state text' state' enc (Err e) (next.Fault fault) =
    (text' ≡ text) × (state' ≡ state) × (view_fault fault ≡ Refused e)
IsShown d text state text' state' enc c n = ⊥

-- this was done with this record
abbrev pub IsRecordShown : LineDirection → List ℕ → TlsState → List ℕ → TlsState → Bool → RawRecord
    → rust.NextRecord → Type 0
IsRecordShown d text state text' state' enc raw n =
    IsShown d text state text' state' enc (content_of enc raw) n

-- this was done with the next record; for an unfinished one nothing was done
abbrev pub IsNext : LineDirection → List ℕ → TlsState → List ℕ → TlsState → Bool → Answer RawRecord
    → rust.NextRecord → Type 0
IsNext d text state text' state' enc (Ok x) n =
    IsShown d text state text' state' enc (content_of enc x.0) n
IsNext d text state text' state' enc (Err (Lacks missing)) next.Nothing =
    (text' ≡ text) × (state' ≡ state)
IsNext d text state text' state' enc (Err (Broken kind)) (next.Fault fault) =
    (text' ≡ text) × (state' ≡ state) × (view_fault fault ≡ Refused (Broken kind))
IsNext d text state text' state' enc a n = ⊥

-- this was done with the first record of the stream
abbrev pub IsNextShown : LineDirection → List ℕ → TlsState → List ℕ → TlsState → Bool → List ℕ
    → rust.NextRecord → Type 0
IsNextShown d text state text' state' enc stream n =
    IsNext d text state text' state' enc (reading raw_record stream) n

-- the records of a direction were printed, and the fault that ends them is returned, or the state
-- after them
abbrev pub AreShown : LineDirection → List ℕ → Half → List ℕ → Half
    → Option rust_fault.ViewFault → Type 0
AreShown d text h text' h' fault =
    (text' ≡ text ++ (half_part d h).0)
    × ((half_part d h).1 ≡ or_fault (option_map view_fault fault) h')

-- a line of the conversation was printed
abbrev pub IsLineShown : List ℕ → List ℕ → ViewedConversation → List ℕ → ViewedConversation
    → Option rust_fault.ViewFault → Type 0
IsLineShown line text c text' c' fault =
    (text' ≡ text ++ (line_part c line).0)
    × ((line_part c line).1 ≡ or_end (option_map view_fault fault) c')

-- the end of the conversation was printed, and the run doesn't fail
abbrev pub IsEndShown : List ℕ → List ℕ → ViewedConversation → ViewExit → Type 0
IsEndShown text text' c exit = (exit ≢ Failed) × (text' ≡ text ++ (end_of c).0)
    × (status_of exit ≡ (end_of c).1)
