use Rattle.std.proofs.Common.{◌≡◌, ◌++◌, [], ap, ◌∙◌}
use Rattle.csv.specs.Machine.{next_record}
use Rattle.csv.specs.Reading.{default_config}
use Rattle.csv.specs.declared.parser.State.TheVariants as st
use Rattle.csv.proofs.RoundTrip.{read-write}
use Rattle.text_forms.proofs.laws.record_reads_back.Goals as goal

pub returns : goal.returns
returns c fields line tail is =
    ap (λ l. next_record default_config st.StartRecord [] [] (l ++ tail)) is ∙ read-write fields tail
