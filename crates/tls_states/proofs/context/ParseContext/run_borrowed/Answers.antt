use Rattle.std.proofs.Common.{◌≡◌, arith, rules}
use Rattle.std.proofs.lemmas.Grind.{common_steps}
use Rattle.tls_states.specs.Symbols.{borrowed_word}
use Rattle.tls_states.specs.Steps.{run}
use Rattle.tls_states.proofs.ConversationLemmas.{encrypted_where, invalid_where}
use Rattle.tls_states.proofs.context.ParseContext.run_borrowed.Goals as goal

pub returns-clause-encrypted : goal.returns-clause-encrypted
returns-clause-encrypted c =
    let ends : c.loop-i.self ≡ run c.args.self.now (borrowed_word c.args.messages.now) =
    first_of (search rules, grind (arith, common_steps)) in
    encrypted_where (borrowed_word c.args.messages.now) c.args.self.now c.loop-i.self ends

pub returns-clause-invalid : goal.returns-clause-invalid
returns-clause-invalid c =
    let ends : c.loop-i.self ≡ run c.args.self.now (borrowed_word c.args.messages.now) =
    first_of (search rules, grind (arith, common_steps)) in
    invalid_where (borrowed_word c.args.messages.now) c.args.self.now c.loop-i.self ends
