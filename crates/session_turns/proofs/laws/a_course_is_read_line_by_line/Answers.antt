use Rattle.session_turns.proofs.CourseLemmas.{course-of_feed}
use Rattle.session_turns.proofs.laws.a_course_is_read_line_by_line.Goals as goal

pub returns : goal.returns
returns c = course-of_feed
