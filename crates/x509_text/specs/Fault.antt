-- Where a list ends before its bytes do: the first item that can't be read (X.690, section 8.10).
use Rattle.std.specs.Prelude.{ℕ, ◌-◌, length, Option, Some, None}
use Rattle.layouts.specs.Bytes.{Bytes}
use Rattle.layouts.specs.Layout.{Layout}
use Rattle.layouts.specs.Meaning.{Refusal, Broken, Lacks}
use Rattle.layouts.specs.Items.{left_in, refusal_in}
use Rattle.layouts.specs.declared.result.ErrorKind.{ErrorKind}
use Rattle.layouts.specs.declared.result.ErrorKind.TheVariants.{Complete}
use Rattle.x509_text.specs.declared.fault.ListFault.{ListFault}

-- Bytes that are missing in a list won't come.
abbrev pub kind_by : Refusal → ErrorKind
kind_by (Broken kind) = kind
kind_by (Lacks n) = Complete

abbrev pub fault_by : ℕ → Option Refusal → Option ListFault
fault_by at None = None
fault_by at (Some refusal) = Some (record { at = at; kind = kind_by refusal })

-- The refusal of the item behind those that can be read, and how many bytes these have.
abbrev pub fault_in : {A : Type 0} → Layout A → Bytes → Option ListFault
fault_in l b = fault_by (length b - length (left_in l b)) (refusal_in l b)
