use Rattle.std.proofs.Common.{refl, rules}
use Rattle.dtls_stream.specs.Fragments.{view_fragment}
use Rattle.dtls_stream.proofs.StoppedLemmas.{any_err, on_err, stopped_out, stopped_same}
use Rattle.dtls_stream.proofs.EmittedLemmas.{received_ok, not_memory_ok, on_ok}
use Rattle.dtls_stream.proofs.read.receive.Goals as goal

pub returns-in_err-push-in-Err : goal.returns-in_err-push-in-Err
returns-in_err-push-in-Err c = record {
  emitted = search rules;
  stopped = λ l h st. any_err c.from_residual.result
      (stopped_same l h (view_fragment c.args.fragment.now) _ _ c.args.messages.now
      c.add.new.self st
      c.in_err-push-in-Err.ensures.items (c.in-Err.ensures.refused refl));
}

pub returns-in-Ok-clause-emitted : goal.returns-in-Ok-clause-emitted
returns-in-Ok-clause-emitted c l h st =
    on_ok c.hand_out.result (c.hand_out.ensures.emitted l _ (c.in-Ok.ensures.taken l h st))
    (received_ok l h (view_fragment c.args.fragment.now) _ _ _
    (not_memory_ok _ _ (c.in-Ok.ensures.answer l h st)))

pub returns-in-Ok-clause-stopped : goal.returns-in-Ok-clause-stopped
returns-in-Ok-clause-stopped c l h st =
    on_err c.hand_out.result (c.hand_out.ensures.stopped l _ (c.in-Ok.ensures.taken l h st))
    (stopped_out l h (view_fragment c.args.fragment.now) _ _ _
    (not_memory_ok _ _ (c.in-Ok.ensures.answer l h st)))

pub returns-in-Err-OutOfMemory-clause-stopped : goal.returns-in-Err-OutOfMemory-clause-stopped
returns-in-Err-OutOfMemory-clause-stopped c l h st =
    stopped_same l h (view_fragment c.args.fragment.now) _ _ c.args.messages.now
    c.add.new.self st refl
    (c.in-Err-OutOfMemory.ensures.refused refl)
