use Rattle.std.proofs.Common.{◌≡◌, ◌++◌, ◌∷◌, [], ap, ◌∙◌, length, take, ◌-◌, ◌<◌, ◌≤◌, arith, vec_len}
use Rattle.json_objects.proofs.Texts.{closed, closed_empty}
use Rattle.json_objects.proofs.object.Object.into_bytes.Goals as goal
use Rattle.json_objects.proofs.object.Object.into_bytes.Goals.{then-len-gt1, else-len-gt1}

pub returns : goal.returns
returns c = λ es is.
    let bytes = c.in_ok-bytes.bytes in
    let shown = c.in_ok-bytes.ensures ∙ is in
    elim c.if-len-gt1.branch [
      | then-len-gt1 w ↦
          let more : 1 < length bytes.items = omega arith in
          let n : vec_len bytes - 1 ≡ length bytes.items - 1 = omega arith in
          let rest : c.if-len-gt1.bytes.items ≡ take (length bytes.items - 1) bytes.items = (λ i. (w.bytes-is i).items) ∙ w.pop.ensures.rest ∙ ap (λ n. take n bytes.items) n in
          c.in_ok-push.ensures.items ∙ ap (λ l. l ++ 125 ∷ []) rest ∙ closed es bytes.items shown more
      | else-len-gt1 w ↦
          let few : length bytes.items ≤ 1 = omega arith in
          let same : c.if-len-gt1.bytes.items ≡ bytes.items = (λ i. (w.bytes-is i).items) in
          c.in_ok-push.ensures.items ∙ ap (λ l. l ++ 125 ∷ []) same ∙ closed_empty es bytes.items shown few
    ]
