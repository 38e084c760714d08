use Rattle.preambles.specs.Walk.{view as place_of}
use Rattle.log_connections.proofs.DialogueLemmas.{reader_behind}
use Rattle.log_connections.proofs.dialogue.Followed.read_on.Goals as goal

pub returns : goal.returns
returns c =
    reader_behind (place_of c.args.self.preamble) (place_of c.read_both-of_client.new.self)
    c.args.self.client c.args.self.server c.read_of.result c.read_of-2.result
    c.read_both-of_client.result.0 c.read_both-of_client.result.1 c.args.client.now
    c.args.server.now c.behind.result.now c.behind-2.result.now c.behind.ensures c.behind-2.ensures
    c.read_both-of_client.ensures.read c.read_of.ensures c.read_of-2.ensures
