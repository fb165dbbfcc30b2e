pub mod ChangeLemmas
pub mod OverlayLemmas
pub mod LoadLaws
pub mod StageLemmas
pub mod EitherLemmas
pub mod BatchLemmas
pub mod TouchLemmas
pub mod ExtractsLemmas
