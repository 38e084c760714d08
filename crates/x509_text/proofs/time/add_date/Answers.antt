use Rattle.std.specs.String.{string_bytes}
use Rattle.x509_text.specs.Time.{day_text, year_text}
use Rattle.x509_text.proofs.TimeLemmas.{behind}
use Rattle.x509_text.proofs.time.add_date.Goals as goal

pub returns : goal.returns
returns c =
    behind (string_bytes c.args.text.now) (string_bytes c.add_year.new.text)
    (string_bytes c.add_day.new.text)
    (year_text c.args.date.year) (day_text c.args.date.month c.args.date.day) c.add_day.result
    c.in_ok-add_year.ensures
    c.add_day.ensures
