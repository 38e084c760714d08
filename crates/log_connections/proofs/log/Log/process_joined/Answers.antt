use Rattle.std.proofs.Common.{◌≡◌, ◌+◌, ◌-◌, refl, sym, ◌∙◌, ap, subst, arith, Bool}
use Rattle.std.specs.Prelude.{is_some}
use Rattle.tunnels.specs.declared.tunnel.TheConstants.{MAX_TUNNELS}
use Rattle.packets.specs.Section.{view_packet}
use Rattle.log_connections.specs.Packet.{at_reader, passes_on}
use Rattle.log_connections.proofs.PacketLemmas.{given, handled_by, handled_in, handled_none, sound_before, stopped_by, stopped_in}
use Rattle.log_connections.proofs.SinkLemmas.{adds_same}
use Rattle.log_connections.specs.Reading.{HoldsJoined, Nothing, deeper, enough, inside, none}
use Rattle.log_connections.proofs.log.Log.process_joined.Goals as goal

pub inside-init : goal.inside-init
inside-init g c = record {
  finds = λ new content h. h;
  needs = λ h. h;
  connections = refl;
  accounted = λ h. h;
  memory = refl;
  kept = refl;
  received = refl;
  lent = refl;
  sound = λ h. h;
}

pub inside-preserved : goal.inside-preserved
inside-preserved g c =
    let same = rw c.if-branch.false at c.in_ok-process_inside.ensures.processed in
    let less : (MAX_TUNNELS + 1) - c.inside.count ≡ ((MAX_TUNNELS + 1) - (c.inside.count + 1)) + 1 =
    omega arith in record {
      finds = λ new content h. c.inside.invariant.finds new content
          (subst
          (λ w. HoldsJoined (view_packet c.args.packet) ((MAX_TUNNELS + 1) - c.inside.count)
          c.inside.self.arrivals w new content) (sym c.in-Some.is)
          (deeper ((MAX_TUNNELS + 1) - c.inside.count) ((MAX_TUNNELS + 1) - (c.inside.count + 1))
          c.inside.self.arrivals c.process_inside.new.self.arrivals c.join_inner.new.self new
          c.in-Some.joined _ content less same.0 c.in_ok-whole.ensures.joins h));
      needs = λ h. c.inside.invariant.needs (ap is_some c.in-Some.is);
      connections = same.1 ∙ c.inside.invariant.connections;
      accounted = λ h. c.process_inside.ensures.accounted (c.inside.invariant.accounted h);
      memory = c.in_ok-process_inside.ensures.memory ∙ c.inside.invariant.memory;
      kept = c.in_ok-process_inside.ensures.kept ∙ c.inside.invariant.kept;
      received = same.2 ∙ c.inside.invariant.received;
      lent = same.3 ∙ c.inside.invariant.lent;
      sound = λ h. c.in_ok-process_inside.ensures.sound (c.inside.invariant.sound h);
    }

pub returns-in_default-clause-handled : goal.returns-in_default-clause-handled
returns-in_default-clause-handled g c =
    handled_in _ _ c.args.self.now.memory c.inside.self.memory c.args.self.now.kept
    c.inside.self.kept _ _ _ _ _ _ _ _ _ _ c.inside.invariant.memory c.inside.invariant.kept
    c.inside.invariant.connections c.inside.invariant.received c.inside.invariant.lent
    (handled_none _ _ (passes_on c.inside.self.kept) _ c.inside.self.arrivals
    c.inside.self.connections c.inside.self.connections (g.S.Sink.received c.inside.sink)
    (g.S.Sink.received c.inside.sink) (g.S.Sink.lent c.inside.sink) (g.S.Sink.lent c.inside.sink)
    (c.inside.invariant.finds c.inside.self.arrivals _
    (rw c.in_default.is (none ((MAX_TUNNELS + 1) - c.inside.count) c.inside.self.arrivals))) refl
    refl refl)

pub returns-in_err-process_inside-clause-stopped : goal.returns-in_err-process_inside-clause-stopped
returns-in_err-process_inside-clause-stopped g c =
    let less : (MAX_TUNNELS + 1) - c.inside.count ≡ ((MAX_TUNNELS + 1) - (c.inside.count + 1)) + 1 =
    omega arith in
    given c.from_residual.result c.in_err-process_inside.field-0.0 _ c.from_residual.ensures.1
    (stopped_in _ _ _ c.in_err-process_inside.field-0.0 c.args.self.now.memory c.inside.self.memory
    c.args.self.now.kept c.inside.self.kept _ _ _ _ _ _ _ _ _ c.inside.invariant.memory
    c.inside.invariant.kept c.inside.invariant.connections c.inside.invariant.received
    c.inside.invariant.lent
    (stopped_by _ _ (passes_on c.inside.self.kept) _ _ _ _ c.in_err-process_inside.field-0.0
    _ _ _ _ _ _
    (λ read content h. c.inside.invariant.finds read content
    (subst
    (λ w. HoldsJoined (view_packet c.args.packet) ((MAX_TUNNELS + 1) - c.inside.count)
    c.inside.self.arrivals w read content) (sym c.in-Some.is)
    (inside ((MAX_TUNNELS + 1) - c.inside.count) ((MAX_TUNNELS + 1) - (c.inside.count + 1))
    c.inside.self.arrivals read c.in-Some.joined content less h)))
    (λ _. c.inside.invariant.needs (ap is_some c.in-Some.is))
    c.in_err-process_inside.ensures.stopped))

pub returns-in_err-process_inside-clause-sound : goal.returns-in_err-process_inside-clause-sound
returns-in_err-process_inside-clause-sound g c =
    sound_before Bool c.from_residual.result (g.S.Sink.is_sound c.args.sink.now)
    (g.S.Sink.is_sound c.inside.sink) (g.S.Sink.is_sound c.process_inside.new.sink)
    c.in_err-process_inside.field-0.0 c.inside.invariant.sound
    c.in_err-process_inside.ensures.sound c.from_residual.ensures.1

pub returns-then-branch-clause-handled : goal.returns-then-branch-clause-handled
returns-then-branch-clause-handled g c =
    let less : (MAX_TUNNELS + 1) - c.inside.count ≡ ((MAX_TUNNELS + 1) - (c.inside.count + 1)) + 1 =
    omega arith in
    handled_in _ _ c.args.self.now.memory c.inside.self.memory c.args.self.now.kept
    c.inside.self.kept _ _ _ _ _ _ _ _ _ _ c.inside.invariant.memory c.inside.invariant.kept
    c.inside.invariant.connections c.inside.invariant.received c.inside.invariant.lent
    (handled_by _ _ (passes_on c.inside.self.kept) _ _ _ _ _ _ _ _ _
    (λ read content h. c.inside.invariant.finds read content
    (subst
    (λ w. HoldsJoined (view_packet c.args.packet) ((MAX_TUNNELS + 1) - c.inside.count)
    c.inside.self.arrivals w read content) (sym c.in-Some.is)
    (inside ((MAX_TUNNELS + 1) - c.inside.count) ((MAX_TUNNELS + 1) - (c.inside.count + 1))
    c.inside.self.arrivals read c.in-Some.joined content less h)))
    (rw c.if-branch.true at c.in_ok-process_inside.ensures.processed))

pub returns-clause-handled : goal.returns-clause-handled
returns-clause-handled g c =
    let none_left : 0 ≡ (MAX_TUNNELS + 1) - c.inside.count = omega arith in
    handled_in _ _ c.args.self.now.memory c.inside.self.memory c.args.self.now.kept
    c.inside.self.kept _ _ _ _ _ _ _ _ _ _ c.inside.invariant.memory c.inside.invariant.kept
    c.inside.invariant.connections c.inside.invariant.received c.inside.invariant.lent
    (handled_none _ _ (passes_on c.inside.self.kept) _ c.inside.self.arrivals
    c.inside.self.connections c.inside.self.connections (g.S.Sink.received c.inside.sink)
    (g.S.Sink.received c.inside.sink) (g.S.Sink.lent c.inside.sink) (g.S.Sink.lent c.inside.sink)
    (c.inside.invariant.finds c.inside.self.arrivals _
    (subst
    (λ n. HoldsJoined (view_packet c.args.packet) n c.inside.self.arrivals c.inside.whole
    c.inside.self.arrivals Nothing) none_left (enough c.inside.self.arrivals c.inside.whole))) refl
    refl refl)

pub returns-in_err-process_inside-clause-accounted : goal.returns-in_err-process_inside-clause-accounted
returns-in_err-process_inside-clause-accounted g c =
    λ h. c.process_inside.ensures.accounted (c.inside.invariant.accounted h)

pub returns-then-branch-clause-accounted : goal.returns-then-branch-clause-accounted
returns-then-branch-clause-accounted g c =
    λ h. c.process_inside.ensures.accounted (c.inside.invariant.accounted h)

pub returns-in_err-whole-clause-accounted : goal.returns-in_err-whole-clause-accounted
returns-in_err-whole-clause-accounted g c =
    λ h. c.process_inside.ensures.accounted (c.inside.invariant.accounted h)

pub returns-in_err-whole-clause-stopped : goal.returns-in_err-whole-clause-stopped
returns-in_err-whole-clause-stopped g c =
    let same = rw c.if-branch.false at c.in_ok-process_inside.ensures.processed in
    given c.from_residual-in_err-whole.result _ _ c.from_residual-in_err-whole.ensures.1 (
      at_reader tt (c.inside.invariant.needs (ap is_some c.in-Some.is))
          (same.1 ∙ c.inside.invariant.connections)
          (adds_same (g.S.Sink.received c.args.sink.now)
          (g.S.Sink.received c.process_inside.new.sink)
          (same.2 ∙ c.inside.invariant.received)),
      adds_same (g.S.Sink.lent c.args.sink.now) (g.S.Sink.lent c.process_inside.new.sink)
          (same.3 ∙ c.inside.invariant.lent),
    )
