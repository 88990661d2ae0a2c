-- A cause that refuses nothing leaves the answer to the next.
use Rattle.std.proofs.Common.{◌≡◌, sym, rules}
use Rattle.codec_pairing.specs.Family.{reads}
use Rattle.codec_pairing.specs.Refusals.{refusal_of_records, lowest_bad, has_bad_part, has_bad_words, has_bad_bases, has_bad_place}
use Rattle.codec_pairing.proofs.refusal.refusal_of_records.Goals as goal
use Rattle.codec_pairing.proofs.refusal.refusal_of_records.Goals.{After-lowest_bad-by_part, After-lowest_bad-by_words, After-lowest_bad-by_bases, After-lowest_bad-by_place}

-- what each search gives
part : (c : After-lowest_bad-by_part) → let f = reads c.args.fates.now c.args.family.now in lowest_bad (has_bad_part f.ops) f ≡ c.lowest_bad-by_part.result
part c = sym (c.lowest_bad-by_part.ensures _ (λ r answer post. search rules))

words : (c : After-lowest_bad-by_words) → let f = reads c.args.fates.now c.args.family.now in lowest_bad (has_bad_words f.ops) f ≡ c.lowest_bad-by_words.result
words c = sym (c.lowest_bad-by_words.ensures _ (λ r answer post. search rules))

bases : (c : After-lowest_bad-by_bases) → let f = reads c.args.fates.now c.args.family.now in lowest_bad (has_bad_bases f.ops) f ≡ c.lowest_bad-by_bases.result
bases c = sym (c.lowest_bad-by_bases.ensures _ (λ r answer post. search rules))

place : (c : After-lowest_bad-by_place) → let f = reads c.args.fates.now c.args.family.now in lowest_bad (has_bad_place f.ops) f ≡ c.lowest_bad-by_place.result
place c = sym (c.lowest_bad-by_place.ensures _ (λ r answer post. search rules))

pub returns-in-Some : goal.returns-in-Some
unfolding refusal_of_records
returns-in-Some c = rw (part (goal.at.returns-in-Some c).After-lowest_bad-by_part, c.in-Some.is)

pub returns-in-Some-by_words : goal.returns-in-Some-by_words
unfolding refusal_of_records
returns-in-Some-by_words c = rw (part (goal.at.returns-in-Some-by_words c).After-lowest_bad-by_part, c.in_default.is, words (goal.at.returns-in-Some-by_words c).After-lowest_bad-by_words, c.in-Some-by_words.is)

pub returns-in-Some-by_bases : goal.returns-in-Some-by_bases
unfolding refusal_of_records
returns-in-Some-by_bases c = rw (part (goal.at.returns-in-Some-by_bases c).After-lowest_bad-by_part, c.in_default.is, words (goal.at.returns-in-Some-by_bases c).After-lowest_bad-by_words, c.in_default-by_words.is, bases (goal.at.returns-in-Some-by_bases c).After-lowest_bad-by_bases, c.in-Some-by_bases.is)

pub returns-in-Some-by_place : goal.returns-in-Some-by_place
unfolding refusal_of_records
returns-in-Some-by_place c = rw (part (goal.at.returns-in-Some-by_place c).After-lowest_bad-by_part, c.in_default.is, words (goal.at.returns-in-Some-by_place c).After-lowest_bad-by_words, c.in_default-by_words.is, bases (goal.at.returns-in-Some-by_place c).After-lowest_bad-by_bases, c.in_default-by_bases.is, place (goal.at.returns-in-Some-by_place c).After-lowest_bad-by_place, c.in-Some-by_place.is)

pub returns : goal.returns
unfolding refusal_of_records
returns c = rw (part (goal.at.returns c).After-lowest_bad-by_part, c.in_default.is, words (goal.at.returns c).After-lowest_bad-by_words, c.in_default-by_words.is, bases (goal.at.returns c).After-lowest_bad-by_bases, c.in_default-by_bases.is, place (goal.at.returns c).After-lowest_bad-by_place, c.in_default-by_place.is)
