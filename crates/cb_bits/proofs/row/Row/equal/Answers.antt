use Rattle.std.proofs.Common.{◌^◌, ◌<◌, ℕ, List, length, sym, ap, subst, ◌∙◌}
use Rattle.std.specs.List.{All}
use Rattle.cb_bits.proofs.Packed.{small_word}
use Rattle.cb_bits.proofs.United.{one_count, same_words, same_values}
use Rattle.cb_bits.proofs.row.Row.equal.Goals as goal

pub equal-requires : goal.equal-requires
equal-requires c =
    ap length (c.as_words.ensures.same ∙ c.deref.ensures.value)
    ∙ one_count _ _ c.self.inside.len c.other.inside.len _ _ c.self.invariant c.other.invariant c.self.view_is c.other.view_is c.requires
    ∙ sym (ap length (c.as_words-2.ensures.same ∙ c.deref-2.ensures.value))

pub returns : goal.returns
returns c =
    let one = c.as_words.ensures.same ∙ c.deref.ensures.value in
    let two = c.as_words-2.ensures.same ∙ c.deref-2.ensures.value in
    let small_one = subst (λ (words : List ℕ). All (λ word. word < 2 ^ 64) words) one c.as_words.ensures.small in
    let small_two = subst (λ (words : List ℕ). All (λ word. word < 2 ^ 64) words) two c.as_words-2.ensures.small in (
      λ same. same_values _ _ c.self.inside.len c.other.inside.len _ _ c.self.invariant c.other.invariant c.self.view_is c.other.view_is c.requires
          (sym one ∙ c.equal.ensures.0 same ∙ two),
      λ alike. c.equal.ensures.1 (one ∙ same_words _ _ c.self.inside.len c.other.inside.len _ _ c.self.invariant c.other.invariant c.self.view_is c.other.view_is c.requires
          (small_word c.self.inside.words.items small_one) (small_word c.other.inside.words.items small_two) alike ∙ sym two),
    )
