-- Laws that follow from a definition or another law that a must-fail edit turns wrong.
pub mod JoinLaws
pub mod Rules
pub mod LargestLaws
pub mod MatchedLaws
pub mod ClimbLaws
pub mod StepsLaws
pub mod UsesLaws
