-- The faults that end a run.
use Rattle.std.specs.Prelude.{ℕ, List, ◌++◌, codes}
use Rattle.std.specs.Fmt.{decimal}
use Rattle.layouts.specs.Meaning.{Refusal, Broken, Lacks}
use Rattle.layouts.specs.declared.result.ErrorKind.{ErrorKind}
use Rattle.layouts.specs.declared.result.ErrorKind.TheVariants.{TooLarge, LengthValue, Verify, Switch, Tag, Complete}
use Rattle.tlsview.specs.declared.fault.ViewFault as rust
use Rattle.tlsview.specs.declared.fault.ViewFault.TheVariants as rust_fault

-- a refused record, or a malformed line
pub data Fault : Type 0 where
  Refused : Refusal → Fault
  BadLine : Fault

abbrev pub view_fault : rust.ViewFault → Fault
view_fault (rust_fault.Incomplete n) = Refused (Lacks n)
view_fault (rust_fault.Error kind) = Refused (Broken kind)
view_fault rust_fault.BadLine = BadLine

abbrev pub kind_name : ErrorKind → List ℕ
kind_name TooLarge = codes "TooLarge"
kind_name LengthValue = codes "LengthValue"
kind_name Verify = codes "Verify"
kind_name Switch = codes "Switch"
kind_name Tag = codes "Tag"
kind_name Complete = codes "Complete"

abbrev pub fault_text : Fault → List ℕ
fault_text (Refused (Lacks n)) = codes "incomplete " ++ decimal n
fault_text (Refused (Broken kind)) = codes "error " ++ kind_name kind
fault_text BadLine = codes "bad line"

abbrev pub fault_status : Fault → ℕ
fault_status (Refused e) = 1
fault_status BadLine = 2

-- the last line of a run that ends at line k
abbrev pub fault_line : ℕ → Fault → List ℕ
fault_line k fault = codes "line " ++ decimal k ++ codes ": " ++ fault_text fault ++ codes "\n"
