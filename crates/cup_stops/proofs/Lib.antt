-- What holds over any grammar where not all that is due can be met; then the lines of trees, of
-- joint finishes, of refuted sides and of sides that are not settled; any line; what can be met;
-- and the laws.
pub mod FilledGrammarLemmas
pub mod MetDueLemmas
pub mod MetWholeLemmas
pub mod DueCaseLemmas
pub mod GroupTreeLineLemmas
pub mod JointRestLemmas
pub mod JointLineLemmas
pub mod HeadedTreeLemmas
pub mod SideLineLemmas
pub mod UnsettledHeadLemmas
pub mod UnsettledLineLemmas
pub mod CupCaseLemmas
pub mod SomeTreeLemmas
pub mod SomeCaseLemmas
pub mod KeptDueLemmas
pub mod KeptLineLemmas
pub mod CupStopLemmas
