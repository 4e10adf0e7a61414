pub mod EmitLemmas
