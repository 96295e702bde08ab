pub mod Chain
pub mod ChainLaws
pub mod What
pub mod Explained
pub mod WhatLaws
pub mod Texts
pub mod Places
pub mod PlaceLaws
