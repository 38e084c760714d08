use Rattle.std.proofs.Common.{Result, Ok, Err, map}
use Rattle.std.specs.Prelude.{OnOk}
use Rattle.tls_ext.specs.Extension.{view}
use Rattle.tls_ext.proofs.ExtensionTextLemmas.{extensions_read}
use Rattle.tls_ext.proofs.writer.gen_tls_extensions.Goals as goal

on_ok : {T E : Type 0} (r : Result T E) (P : Type 0) → P → OnOk r P
on_ok (Ok x) P p = p
on_ok (Err e) P p = tt

pub returns-clause-reads_back : goal.returns-clause-reads_back
returns-clause-reads_back g c = on_ok c.write_whole.result _
    (extensions_read (map view c.args.extensions.now) c.in_ok-len.ensures.0
    c.append_extensions.ensures.range)
