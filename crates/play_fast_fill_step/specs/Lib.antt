pub mod FillStep
