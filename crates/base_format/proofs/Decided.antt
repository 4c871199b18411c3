-- The rules by which tests decide a definition, passed on.
pub use Rattle.base_targets.proofs.Decided.{decided}
