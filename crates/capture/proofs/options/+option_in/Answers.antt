use Rattle.std.proofs.Common.{length, ap, arith}
use Rattle.std.proofs.lemmas.List.{take_rest, length-drop}
use Rattle.capture.proofs.OptionLemmas.{none_left, short, one_more, another}
use Rattle.capture.proofs.options.+option_in.Goals as goal

pub returns-then-most-eq0 : goal.returns-then-most-eq0
returns-then-most-eq0 t c = none_left _ _ _ c.if-most-eq0.true

pub returns-in_default : goal.returns-in_default
returns-in_default t c = short _ _ _ (omega arith)

pub returns-then-found-eq-END : goal.returns-then-found-eq-END
returns-then-found-eq-END t c =
    let step = one_more c.args.most c.args.kind c.args.options.now c.if-most-eq0.false
    (omega arith) in
    grind (arith, step)

pub returns-then-found-eq-PADDING : goal.returns-then-found-eq-PADDING
returns-then-found-eq-PADDING t c =
    let step = one_more c.args.most c.args.kind c.args.options.now c.if-most-eq0.false
    (omega arith) in
    let behind = take_rest c.args.options.now 1 in
    grind (arith, step, behind)

pub returns-then-len-lt2 : goal.returns-then-len-lt2
returns-then-len-lt2 t c =
    let step = one_more c.args.most c.args.kind c.args.options.now c.if-most-eq0.false
    (omega arith) in
    let behind = take_rest c.args.options.now 2 in
    grind (arith, step, behind)

pub returns-then-found-kind : goal.returns-then-found-kind
returns-then-found-kind t c =
    let step = one_more c.args.most c.args.kind c.args.options.now c.if-most-eq0.false
    (omega arith) in
    let behind = take_rest c.args.options.now 2 in
    grind (arith, step, behind)

pub returns : goal.returns
returns t c =
    let xs = c.args.options.now in
    let behind = take_rest xs 2 in
    let next = another c.args.most c.args.kind xs c.if-most-eq0.false (omega arith)
    c.if-found-eq-END.false
    c.if-found-eq-PADDING.false
    (omega arith)
    (omega (arith, ap length behind, length-drop 2 xs))
    c.if-found-kind.false in
    cc (c.option_in-2.ensures, c.split_at.ensures.back, behind, next)
