use Rattle.std.proofs.Common.{◌+◌, ◌≡◌, [], drop, length, subst, arith, le_refl, drop_of_length-le}
use Rattle.std.proofs.lemmas.List.{take_rest}
use Rattle.std.proofs.lemmas.Bool.Decides.{nat_tests}
use Rattle.memchr.specs.Find.{IsFirstByte, is_byte}
use Rattle.tlsview.proofs.LineLemmas.{lines_of-at_break, lines_of-whole}
use Rattle.tlsview.proofs.lines.first_line.Goals as goal

pub returns-in-Some-clause-lines : goal.returns-in-Some-clause-lines
returns-in-Some-clause-lines c =
    let all = c.args.input.now in
    let first = subst (IsFirstByte (is_byte 10) all) c.in-Some.is c.memchr.ensures in
    rw (take_rest all (c.in-Some.end + 1)) (lines_of-at_break c.in-Some.end all first)

pub returns-in-None-2-clause-lines : goal.returns-in-None-2-clause-lines
returns-in-None-2-clause-lines c =
    let all = c.args.input.now in
    let none : drop (length all) all ≡ [] = drop_of_length-le all (le_refl _) in
    let first = subst (IsFirstByte (is_byte 10) all) c.in-None.is c.memchr.ensures in
    rw (take_rest all (length all), none) (lines_of-whole all (grind (arith, nat_tests)) first)
