-- Missing bytes that their receiver acknowledged: it took them, and the capture lost them.
use Rattle.std.specs.Prelude.{ℕ, Bool, true, false, ◌&&◌, if◌then◌else◌, Option, Some, None, List, [], ◌∷◌}
use Rattle.connections.specs.FiveTuple.{is_end}
use Rattle.connections.specs.Numbers.{is_behind}
use Rattle.connections.specs.Stream.{is_missing, not_skipping, skipped_in, skipping}
use Rattle.connections.specs.Waiting.{first_of_kept, Kept}
use Rattle.connections.specs.declared.connection.Connection.{Connection}
use Rattle.connections.specs.declared.connection.Side.{Side}
use Rattle.connections.specs.declared.connection.Side.TheVariants.{Originator, Responder}
use Rattle.connections.specs.declared.five_tuple.End.{End}
use Rattle.connections.specs.declared.stream.Stream.{Stream}

-- How many bytes are skipped up to behind them, unread ones included.
abbrev pub lost_in : Option ℕ → Stream → ℕ
lost_in None t = 0
lost_in (Some n) t = if is_missing n t then skipped_in t t.reading else 0

abbrev pub skipping_lost : Option ℕ → Stream → Stream
skipping_lost None t = t
skipping_lost (Some n) t = if is_missing n t then skipping t t.reading else t

-- Without memory for the bytes behind them.
abbrev pub keeping_lost : Option ℕ → Stream → Stream
keeping_lost None t = t
keeping_lost (Some n) t = if is_missing n t then not_skipping t t.reading else t

-- A pending segment of this sender begins before a number.
abbrev pub begins_before : End → ℕ → Kept → Bool
begins_before e n k = is_end k.header.source e && is_behind n (first_of_kept k)

abbrev pub waits_before : End → ℕ → List Kept → Bool
waits_before e n [] = false
waits_before e n (k ∷ ks) = if begins_before e n k then true else waits_before e n ks

module _ {T : Type 0} where
  abbrev pub end_of_side : Side → Connection T → End
  end_of_side Originator c = c.originator
  end_of_side Responder c = c.responder

  -- None are lost while a pending segment of the side, that begins before a number, may hold them.
  abbrev pub lost_on : Side → Connection T → ℕ
  lost_on Originator c = lost_in c.responder_host.acknowledged c.from_originator
  lost_on Responder c = lost_in c.originator_host.acknowledged c.from_responder

  abbrev pub lost_of : Side → ℕ → Connection T → ℕ
  lost_of side n c = if waits_before (end_of_side side c) n c.waiting then 0 else lost_on side c

  -- Those of a side are skipped.
  abbrev pub skipping_on : Side → Connection T → Connection T
  skipping_on Originator c = record c {
    from_originator = skipping_lost c.responder_host.acknowledged c.from_originator;
  }
  skipping_on Responder c = record c {
    from_responder = skipping_lost c.originator_host.acknowledged c.from_responder;
  }

  abbrev pub skipping_lost_of : Side → ℕ → Connection T → Connection T
  skipping_lost_of side n c =
      if waits_before (end_of_side side c) n c.waiting then c else skipping_on side c

  abbrev pub keeping_on : Side → Connection T → Connection T
  keeping_on Originator c = record c {
    from_originator = keeping_lost c.responder_host.acknowledged c.from_originator;
  }
  keeping_on Responder c = record c {
    from_responder = keeping_lost c.originator_host.acknowledged c.from_responder;
  }

  abbrev pub keeping_lost_of : Side → ℕ → Connection T → Connection T
  keeping_lost_of side n c =
      if waits_before (end_of_side side c) n c.waiting then c else keeping_on side c
