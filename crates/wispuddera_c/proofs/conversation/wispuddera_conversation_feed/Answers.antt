use Rattle.std.proofs.Common.{length, subst}
use Rattle.tls_stream.specs.SideReaders.{IsFed}
use Rattle.wispuddera_c.specs.Conversation.{known_of}
use Rattle.wispuddera_c.specs.Side.{side_reader_of}
use Rattle.wispuddera_c.proofs.ConversationLemmas.{all_else, fed_with, other_with, within_with}
use Rattle.wispuddera_c.proofs.SideLemmas.{fed_is}
use Rattle.wispuddera_c.proofs.conversation.wispuddera_conversation_feed.Goals as goal

pub returns-clause-fed : goal.returns-clause-fed
returns-clause-fed c = λ read.
    let old = c.args.conversation.now in
    let k = known_of old in
    record {
      fed = fed_with c.args.to_server c.args.buffer.now c.append.new.buffer c.append.new.self old
          c.put.new.self
          c.args.piece.now c.put.ensures
          (subst (λ s. IsFed (side_reader_of k c.args.buffer.now s) c.args.piece.now
          (side_reader_of k c.append.new.buffer c.append.new.self)) c.side-side.ensures
          (fed_is k c.args.buffer.now c.append.new.buffer c.side-side.result c.append.new.self
          c.args.piece.now
          c.if-side.false c.append.ensures.over (c.append.ensures.fed k)));
      within = within_with c.args.to_server (length c.append.new.buffer) c.append.new.self old
          c.put.new.self
          c.put.ensures c.append.ensures.within;
      other_side = other_with c.args.to_server c.append.new.self old c.put.new.self c.put.ensures;
      session = (all_else c.args.to_server c.append.new.self old c.put.new.self
          c.put.ensures).session;
    }
