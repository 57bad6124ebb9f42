use Rattle.comfy_parts.proofs.FollowingLemmas.{first-none, first-found}
use Rattle.comfy_parts.proofs.content_split.ends.first_element.Goals as goal

pub returns-in-Some : goal.returns-in-Some
returns-in-Some c =
    let found = c.in-Some.ensures.cases in
    rw (c.split_at.ensures.front, c.split_at.ensures.back)
    (first-found c.args.delimiter c.args.text.now c.in-Some.at found.0 c.ranges.delimiter.0 c.utf8.text found.1 found.3)

pub returns-in-None : goal.returns-in-None
returns-in-None c = first-none c.args.delimiter c.args.text.now c.utf8.text c.in-None.ensures.cases
