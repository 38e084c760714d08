use Rattle.std.proofs.Common.{[]}
use Rattle.tls_json.proofs.timestamps.list.Goals as goal

pub returns : goal.returns
returns c =
    c.finish.ensures _
    (c.with_timestamps.ensures _ (c.add-raw.ensures [] _ c.new.ensures c.all_blobs.ensures))
