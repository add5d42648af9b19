mod HeapLemmas
mod PermutationLemmas
