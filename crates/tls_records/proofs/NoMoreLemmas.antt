-- Calls that never return `Incomplete`.
use Rattle.std.proofs.Common.{List, [], ◌∷◌}
use Rattle.layouts.specs.Bytes.{Bytes}
use Rattle.layouts.specs.Layout.{done, mapped}
use Rattle.layouts.specs.Answers.{Returned, GivesOrMemory}
use Rattle.layouts.proofs.LackingLemmas.{never-done, never-chain}
use Rattle.tls_hs.specs.Message.{Message, application_data}
use Rattle.raw_records.specs.Framing.{AsksNoMore}
use Rattle.raw_records.proofs.NoMoreLemmas.{asks_no_more, list_asks, whole_asks}
use Rattle.tls_records.proofs.FurtherLemmas.{application_data_never_lacks}

pub data_asks : {X : Type 0} (view : X → List Message) (b : Bytes) (r : Returned X)
    → GivesOrMemory view (mapped (λ m. m ∷ []) application_data) b r → AsksNoMore r
data_asks view b r g =
    asks_no_more view (mapped (λ m. m ∷ []) application_data)
    (never-chain application_data (λ m. done (m ∷ [])) application_data_never_lacks
    (λ m. never-done (m ∷ []))) b
    r g

pub ruleset never_asked = (list_asks, whole_asks, data_asks)
