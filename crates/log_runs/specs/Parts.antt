-- The connections and packets of one of the parts that share a capture.
use Rattle.std.specs.Prelude.{ℕ, Bool, true, ◌&&◌, not, Option, List, filter}
use Rattle.arrivals.specs.Arrival.{five_tuple_in}
use Rattle.arrivals.specs.declared.reader.ArrivalReader.{ArrivalReader}
use Rattle.connection_parts.specs.Part.{falls_to}
use Rattle.connection_parts.specs.declared.part.Part.{Part}
use Rattle.connections.specs.Table.{Table}
use Rattle.connections.specs.declared.connection.Connection.{Connection}
use Rattle.connections.specs.declared.five_tuple.FiveTuple.{FiveTuple}
use Rattle.packets.specs.Section.{Packet}
use Rattle.log_connections.specs.declared.analysis.TlsAnalysis.{TlsAnalysis}
use Rattle.log_connections.specs.Reading.{Content, InFragments, Nothing, Whole}
use Rattle.log_runs.specs.Runs.{HandlesEach, none_yet, one_more}

-- The connection of a five-tuple falls to a part.
abbrev pub is_of_part : Part → FiveTuple → Bool
is_of_part part e = falls_to e.protocol e.lower e.upper part

-- The entries of the part's connections, in their order.
module _ {X : Type 0} where
  abbrev pub entries_of_part : Part → List (FiveTuple × X) → List (FiveTuple × X)
  entries_of_part part xs = filter (λ x. is_of_part part x.0) xs

-- What a packet holds is of the part, or of other parts alone.
abbrev pub is_content_of_part : Part → Content → Bool
is_content_of_part part Nothing = true
is_content_of_part part (Whole a) = is_of_part part (five_tuple_in a)
is_content_of_part part (InFragments a n) = is_of_part part (five_tuple_in a)

abbrev pub is_content_of_others : Part → Content → Bool
is_content_of_others part Nothing = true
is_content_of_others part (Whole a) = not (is_of_part part (five_tuple_in a))
is_content_of_others part (InFragments a n) = not (is_of_part part (five_tuple_in a))

module _ {K : Type 0} {M : K → ℕ} where
  -- All these packets are of the part, or of other parts alone.
  abbrev pub are_of_part : Part → {limit : ℕ} {reader : ArrivalReader}
      {old : Table (TlsAnalysis K)} {before : Option (List (Connection (TlsAnalysis K)))}
      {packets : List Packet} {read : ArrivalReader} {new : Table (TlsAnalysis K)}
      {after : Option (List (Connection (TlsAnalysis K)))}
      → HandlesEach M limit reader old before packets read new after → Bool
  are_of_part part none_yet = true
  are_of_part part (one_more packets p read reads mid new between after h handles) =
      are_of_part part h && is_content_of_part part handles.content

  abbrev pub are_of_other_parts : Part → {limit : ℕ} {reader : ArrivalReader}
      {old : Table (TlsAnalysis K)} {before : Option (List (Connection (TlsAnalysis K)))}
      {packets : List Packet} {read : ArrivalReader} {new : Table (TlsAnalysis K)}
      {after : Option (List (Connection (TlsAnalysis K)))}
      → HandlesEach M limit reader old before packets read new after → Bool
  are_of_other_parts part none_yet = true
  are_of_other_parts part (one_more packets p read reads mid new between after h handles) =
      are_of_other_parts part h && is_content_of_others part handles.content
