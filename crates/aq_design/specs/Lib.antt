-- What the contracts say of assumed concurrences and of combined sites; design values are said in the book's words.
pub mod WhatIf
pub mod Combined
